-- Lines, words and numbers, a byte at a time. Assumes nothing.
use Rattle.std.proofs.Common.{◌≡◌, ℕ, suc, ◌+◌, ◌-◌, ◌<◌, ◌≤◌, Bool, true, false, cond, not, eqb, ltb, List, [], ◌∷◌, length, get_or, take, drop, pos, neg_ℤ, Some, None, Option, unwrap_or, refl, ap, subst, ◌∙◌, arith}
use Rattle.std.specs.Option.{option_map}
use Rattle.std.specs.List.{before_first, position_or_len}
use Rattle.std.proofs.lemmas.Bool.Decides.{nat_tests}
use Rattle.std.proofs.lemmas.List.{drop_more, drop_all, take_rest}
use Rattle.std.proofs.lemmas.List.Sums.{prefix_len-le-length}
use Rattle.pitch_text.specs.Words.{up_to, before, onto, lines_of, words_of, joins, blank, ends_word, spoken, digit_after, read_on, numeral, signed_in}

-- the bytes from the first that passes a test on, or none
abbrev pub from : (ℕ → Bool) → List ℕ → List ℕ
from p [] = []
from p (x ∷ xs) = cond (p x) (x ∷ xs) (from p xs)

-- what stands after the first b
abbrev pub after : ℕ → List ℕ → List ℕ
after b xs = drop 1 (from (λ x. eqb x b) xs)

-- what stands before the first byte that passes, and from it on, as the library says it
pub up_to_is : (p : ℕ → Bool) (xs : List ℕ) → up_to p xs ≡ before_first p xs
up_to_is p [] = refl
up_to_is p (x ∷ xs) = elim (p x) as (λ b. cond b [] (x ∷ up_to p xs) ≡ take (cond (not b) (1 + position_or_len p xs) 0) (x ∷ xs)) [ true ↦ refl | false ↦ (let e : 1 + position_or_len p xs ≡ suc (position_or_len p xs) = omega arith in rw e (ap (λ ys. x ∷ ys) (up_to_is p xs))) ]

pub from_is : (p : ℕ → Bool) (xs : List ℕ) → from p xs ≡ drop (position_or_len p xs) xs
from_is p [] = refl
from_is p (x ∷ xs) = elim (p x) as (λ b. cond b (x ∷ xs) (from p xs) ≡ drop (cond (not b) (1 + position_or_len p xs) 0) (x ∷ xs)) [ true ↦ refl | false ↦ (let e : 1 + position_or_len p xs ≡ suc (position_or_len p xs) = omega arith in rw e (from_is p xs)) ]

pub end_is : (p : ℕ → Bool) (xs : List ℕ) (o : Option ℕ) → o ≡ cond (ltb (position_or_len p xs) (length xs)) (Some (position_or_len p xs)) None → unwrap_or o (length xs) ≡ position_or_len p xs
end_is p xs o e = rw e (elim (ltb (position_or_len p xs) (length xs)) as (λ b. ltb (position_or_len p xs) (length xs) ≡ b → unwrap_or (cond b (Some (position_or_len p xs)) None) (length xs) ≡ position_or_len p xs) [ true ↦ λ t. refl | false ↦ λ t. grind (arith, nat_tests, prefix_len-le-length) ] refl)

-- `lines_of`, a line at a time
abbrev LineFirst : ℕ → List ℕ → Type 0
LineFirst x xs = onto x (lines_of xs) ≡ (x ∷ up_to (λ y. eqb y 10) xs) ∷ lines_of (drop 1 (from (λ y. eqb y 10) xs))

line_step : (x : ℕ) (xs : List ℕ) → LineFirst x xs → lines_of (x ∷ xs) ≡ up_to (λ y. eqb y 10) (x ∷ xs) ∷ lines_of (drop 1 (from (λ y. eqb y 10) (x ∷ xs)))
line_step x xs h = elim (eqb x 10) as (λ b. cond b ([] ∷ lines_of xs) (onto x (lines_of xs)) ≡ cond b [] (x ∷ up_to (λ y. eqb y 10) xs) ∷ lines_of (drop 1 (cond b (x ∷ xs) (from (λ y. eqb y 10) xs)))) [ true ↦ refl | false ↦ h ]

line_first : (x : ℕ) (xs : List ℕ) → LineFirst x xs
line_first x [] = refl
line_first x (y ∷ ys) = ap (onto x) (line_step y ys (line_first y ys))

pub lines_more : (x : ℕ) (xs : List ℕ) → lines_of (x ∷ xs) ≡ up_to (λ y. eqb y 10) (x ∷ xs) ∷ lines_of (drop 1 (from (λ y. eqb y 10) (x ∷ xs)))
lines_more x xs = line_step x xs (line_first x xs)

-- `words_of`, a word at a time
abbrev pub WordFirst : ℕ → List ℕ → Type 0
WordFirst x xs = joins x xs (words_of xs) ≡ (x ∷ up_to blank xs) ∷ words_of (from blank xs)

word_step : (x y : ℕ) (ys : List ℕ) (b : Bool) → blank y ≡ b → WordFirst y ys → WordFirst x (y ∷ ys)
word_step x y ys true e h = simp e
word_step x y ys false e h = simp (e, h)

pub word_first : (x : ℕ) (xs : List ℕ) → WordFirst x xs
word_first x [] = refl
word_first x (y ∷ ys) = word_step x y ys (blank y) refl (word_first y ys)

-- a word before a comment, and what stands behind it
said_step : (x : ℕ) (xs : List ℕ) (h b : Bool) → eqb x 35 ≡ h → blank x ≡ b → up_to blank (before 35 xs) ≡ up_to ends_word xs → up_to blank (before 35 (x ∷ xs)) ≡ up_to ends_word (x ∷ xs)
said_step x xs true true e f r = simp (e, f)
said_step x xs true false e f r = simp (e, f)
said_step x xs false true e f r = simp (e, f)
said_step x xs false false e f r = simp (e, f, r)

word_said : (xs : List ℕ) → up_to blank (before 35 xs) ≡ up_to ends_word xs
word_said [] = refl
word_said (x ∷ xs) = said_step x xs (eqb x 35) (blank x) refl refl (word_said xs)

left_step : (x : ℕ) (xs : List ℕ) (h b : Bool) → eqb x 35 ≡ h → blank x ≡ b → from blank (before 35 xs) ≡ before 35 (from ends_word xs) → from blank (before 35 (x ∷ xs)) ≡ before 35 (from ends_word (x ∷ xs))
left_step x xs true true e f r = simp (e, f)
left_step x xs true false e f r = simp (e, f)
left_step x xs false true e f r = simp (e, f)
left_step x xs false false e f r = simp (e, f) r

left_said : (xs : List ℕ) → from blank (before 35 xs) ≡ before 35 (from ends_word xs)
left_said [] = refl
left_said (x ∷ xs) = left_step x xs (eqb x 35) (blank x) refl refl (left_said xs)

-- the bytes from the first that is not blank on, and the words
abbrev solid : ℕ → Bool
solid x = not (blank x)

record Word (y : ℕ) (ys : List ℕ) (ws : List (List ℕ)) : Type 0 where
  solid : blank y ≡ false
  comment : eqb y 35 ≡ true → ws ≡ []
  word : eqb y 35 ≡ false → ws ≡ up_to ends_word (y ∷ ys) ∷ spoken (from ends_word (y ∷ ys))

abbrev Begun : List ℕ → List (List ℕ) → Type 0
Begun [] ws = ws ≡ []
Begun (y ∷ ys) ws = Word y ys ws

begun_step : (x : ℕ) (xs : List ℕ) (b : Bool) → blank x ≡ b → Begun (from solid xs) (spoken xs) → Begun (from solid (x ∷ xs)) (spoken (x ∷ xs))
begun_step x xs true e h = let n : eqb x 35 ≡ false = grind (arith, nat_tests, e) in simp (e, n) h
begun_step x xs false e h = simp e (record {
  solid = e;
  comment = λ t. simp t;
  word = λ n. simp (e, n) (word_first x (before 35 xs) ∙ rw (word_said xs, left_said xs) refl);
})

begun : (xs : List ℕ) → Begun (from solid xs) (spoken xs)
begun [] = refl
begun (x ∷ xs) = begun_step x xs (blank x) refl (begun xs)

begun_none : (ys : List ℕ) (ws : List (List ℕ)) → Begun ys ws → length ys ≡ 0 → ws ≡ []
begun_none [] ws h n = h
begun_none (y ∷ ys) ws h n = absurd (omega (arith, n))

begun_stop : (ys : List ℕ) (ws : List (List ℕ)) → Begun ys ws → position_or_len ends_word ys ≡ 0 → ws ≡ []
begun_stop [] ws h z = h
begun_stop (y ∷ ys) ws h z =
    elim (eqb y 35) as (λ k. eqb y 35 ≡ k → ws ≡ []) [
      | true ↦ h.comment
      | false ↦ λ f.
          let ends : ends_word y ≡ false = simp (h.solid, f) in
          let step : position_or_len ends_word (y ∷ ys) ≡ 1 + position_or_len ends_word ys = rw ends refl in
          absurd (omega (arith, step, z))
    ] refl

begun_some : (ys : List ℕ) (ws : List (List ℕ)) → Begun ys ws → 0 < position_or_len ends_word ys → ws ≡ up_to ends_word ys ∷ spoken (from ends_word ys)
begun_some [] ws h n = absurd (omega (arith, n))
begun_some (y ∷ ys) ws h n =
    elim (eqb y 35) as (λ k. eqb y 35 ≡ k → ws ≡ up_to ends_word (y ∷ ys) ∷ spoken (from ends_word (y ∷ ys))) [
      | true ↦ λ t.
          let ends : ends_word y ≡ true = simp (h.solid, t) in
          let step : position_or_len ends_word (y ∷ ys) ≡ 0 = rw ends refl in
          absurd (omega (arith, step, n))
      | false ↦ h.word
    ] refl

-- what a search for the first byte that passes answers
abbrev pub place : (ℕ → Bool) → List ℕ → Option ℕ
place p xs = cond (ltb (position_or_len p xs) (length xs)) (Some (position_or_len p xs)) None

-- only blanks are left
pub no_word : (xs : List ℕ) → place (λ x. not (blank x)) xs ≡ None → spoken xs ≡ []
no_word xs e =
    elim (ltb (position_or_len solid xs) (length xs)) as (λ b. ltb (position_or_len solid xs) (length xs) ≡ b → cond b (Some (position_or_len solid xs)) None ≡ None → spoken xs ≡ []) [
      | true ↦ λ t z. cc
      | false ↦ λ t z.
          let past : length xs ≤ position_or_len solid xs = grind (arith, nat_tests) in
          begun_none (from solid xs) (spoken xs) (begun xs) (ap length (from_is solid xs ∙ drop_all (position_or_len solid xs) xs past))
    ] refl e

-- from the byte i on, which is not blank
module _ (xs : List ℕ) (i : ℕ) (e : place (λ x. not (blank x)) xs ≡ Some i) where
  begun_at : Begun (drop i xs) (spoken xs)
  begun_at =
      elim (ltb (position_or_len solid xs) (length xs)) as (λ b. ltb (position_or_len solid xs) (length xs) ≡ b → cond b (Some (position_or_len solid xs)) None ≡ Some i → Begun (drop i xs) (spoken xs)) [
        | true ↦ λ t z.
            let is : position_or_len solid xs ≡ i = cc in
            subst (λ ys. Begun ys (spoken xs)) (from_is solid xs ∙ ap (λ k. drop k xs) is) (begun xs)
        | false ↦ λ t z. cc
      ] refl e

  -- a comment begins there
  pub comment_at : position_or_len ends_word (drop i xs) ≡ 0 → spoken xs ≡ []
  comment_at z = begun_stop (drop i xs) (spoken xs) begun_at z

  -- a word begins there
  pub word_at : 0 < position_or_len ends_word (drop i xs) → spoken xs ≡ take (position_or_len ends_word (drop i xs)) (drop i xs) ∷ spoken (drop (position_or_len ends_word (drop i xs)) (drop i xs))
  word_at n = begun_some (drop i xs) (spoken xs) begun_at n ∙ rw (up_to_is ends_word (drop i xs), from_is ends_word (drop i xs)) refl

-- a number, a digit at a time
pub read_more : (limit n m : ℕ) (xs : List ℕ) (i : ℕ) → i < length xs → digit_after limit n (get_or xs i 0) ≡ Some m → read_on limit n (drop i xs) ≡ read_on limit m (drop (i + 1) xs)
read_more limit n m xs i h e = ap (read_on limit n) (drop_more xs i 0 h) ∙ rw e

pub read_stop : (limit n : ℕ) (xs : List ℕ) (i : ℕ) → i < length xs → digit_after limit n (get_or xs i 0) ≡ None → read_on limit n (drop i xs) ≡ None
read_stop limit n xs i h e = ap (read_on limit n) (drop_more xs i 0 h) ∙ rw e

pub read_all : (limit n : ℕ) (xs : List ℕ) (i : ℕ) → length xs ≤ i → read_on limit n (drop i xs) ≡ Some n
read_all limit n xs i h = ap (read_on limit n) (drop_all i xs h)

pub numeral_some : (limit : ℕ) (xs : List ℕ) → 0 < length xs → numeral limit xs ≡ read_on limit 0 xs
numeral_some limit [] h = absurd (omega arith)
numeral_some limit (x ∷ xs) h = refl

-- a number with a minus; `&word[1..]` holds its digits
pub signed_minus : (xs : List ℕ) (o : Option ℕ) → 0 < length xs → get_or xs 0 0 ≡ 45 → o ≡ numeral 32768 (take (length xs - 1) (drop 1 xs)) → signed_in xs ≡ option_map (λ n. neg_ℤ (pos n)) o
signed_minus [] o h e v = absurd (omega arith)
signed_minus (x ∷ xs) o h e v = rw (e, v, take_rest (x ∷ xs) 1)
