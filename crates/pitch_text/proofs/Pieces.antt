-- A text cut at its line feeds, as a loop over the pieces sees it. Assumes nothing.
use Rattle.std.proofs.Common.{◌≡◌, ℕ, ◌+◌, ◌-◌, ◌<◌, min, Bool, true, false, ◌&&◌, eqb, nat_le, List, ◌∷◌, ◌++◌, length, get_or, take, drop, Some, None, Option, Bor, MatchOption, inl, inr, sym, refl, ap, subst, ◌∙◌, arith}
use denote.Param.Members.{Mut}
use Rattle.std.specs.Fn.{ComputesKey, CalledAt}
use Rattle.std.specs.List.{position_or_len, IsFirstMatchOrLen}
use Rattle.std.specs.Iterator.{Yields}
use Rattle.std.specs.declared.slice.SplitInclusive.{SplitInclusive}
use Rattle.std.specs.Slice.Iter.{split_inclusive_rest, split_inclusive_callee}
use Rattle.std.proofs.lemmas.Bool.{cases_lt}
use Rattle.std.proofs.lemmas.Bool.Decides.{nat_tests}
use Rattle.std.proofs.lemmas.Fn.{always_returns_same}
use Rattle.std.proofs.lemmas.Iterator.{YieldsList}
use Rattle.std.proofs.lemmas.Iterator.Consumers.{YieldsList-turn, YieldsList-end}
use Rattle.std.proofs.lemmas.Iterator.Splits.{YieldsList-from_shown_while}
use Rattle.std.proofs.lemmas.List.{take-append-le, length-append, take_all, drop_all, drop-drop, nil_from_length}
use Rattle.std.proofs.Math.Seq.{drop-append_seam}
use Rattle.std.proofs.Math.ListN.{get_or-append}
use Rattle.std.proofs.lemmas.List.Sums.{position_or_len_is}
use Rattle.pitch_text.specs.Words.{up_to, before, without_feed, lines_of}
use Rattle.pitch_text.proofs.Scans.{from, after, up_to_is, from_is}
use Rattle.pitch_text.proofs.Texts.{lines_cut}

-- a piece x of xs, up to and with the first byte that passes
module _ (p : ℕ → Bool) (xs x rest : List ℕ) (i : ℕ) (is : xs ≡ x ++ rest) (len : length x ≡ min (i + 1) (length xs)) (first : IsFirstMatchOrLen p xs i) where
  parts : length xs ≡ length x + length rest
  parts = ap length is ∙ length-append x rest

  same_at : (k : ℕ) → k < length x → get_or x k 0 ≡ get_or xs k 0
  same_at k h = sym (ap (λ ys. get_or ys k 0) is ∙ get_or-append x rest 0 k h)

  place_all : position_or_len p xs ≡ min i (length xs)
  place_all = position_or_len_is p xs (min i (length xs)) 0 (omega arith) (λ k h. first.0 k 0 (omega arith) (omega arith)) (λ h. let e : min i (length xs) ≡ i = omega arith in rw e (first.1 (omega arith) 0))

  place_part : position_or_len p x ≡ min i (length xs)
  place_part =
      let n = parts in
      position_or_len_is p x (min i (length xs)) 0 (omega arith) (λ k h. rw (same_at k (omega arith)) (first.0 k 0 (omega arith) (omega arith))) (λ h. let e : min i (length xs) ≡ i = omega arith in rw (same_at (min i (length xs)) h, e) (first.1 (omega arith) 0))

  fronts : up_to p xs ≡ up_to p x
  fronts =
      let n = parts in
      up_to_is p xs ∙ (ap (λ k. take k xs) place_all ∙ (ap (take (min i (length xs))) is ∙ (take-append-le (min i (length xs)) x rest (omega arith) ∙ (ap (λ k. take k x) (sym place_part) ∙ sym (up_to_is p x)))))

  backs : drop 1 (from p xs) ≡ rest
  backs =
      let n = parts in
      let there : drop 1 (from p xs) ≡ drop (min i (length xs) + 1) xs = ap (drop 1) (from_is p xs) ∙ (drop-drop 1 (position_or_len p xs) xs ∙ ap (λ k. drop (k + 1) xs) place_all) in
      let here : drop (length x) xs ≡ rest = ap (drop (length x)) is ∙ drop-append_seam x rest in
      there ∙ elim (cases_lt i (length xs)) [
        | inl h ↦ ap (λ k. drop k xs) (omega arith) ∙ here
        | inr h ↦ drop_all (min i (length xs) + 1) xs (omega arith) ∙ sym (nil_from_length rest (omega arith))
      ]

-- the line feed, if there is one, stands at the end of a piece, so taking it off leaves what stands before it
module _ (xs x rest : List ℕ) (i : ℕ) (is : xs ≡ x ++ rest) (len : length x ≡ min (i + 1) (length xs)) (first : IsFirstMatchOrLen (λ y. eqb y 10) xs i) where
  line_is : before 10 x ≡ take (min i (length xs)) x
  line_is = up_to_is (λ y. eqb y 10) x ∙ ap (λ k. take k x) (place_part (λ y. eqb y 10) xs x rest i is len first)

  bare : without_feed x ≡ before 10 x
  bare =
      let n = parts (λ y. eqb y 10) xs x rest i is len first in
      elim (cases_lt i (length xs)) [
        | inl h ↦
            let k : length x - 1 ≡ i = omega arith in
            let hit : eqb (get_or x (length x - 1) 0) 10 ≡ true = rw (k, same_at (λ y. eqb y 10) xs x rest i is len first i (omega arith)) (first.1 h 0) in
            let some : nat_le 1 (length x) ≡ true = grind (arith, nat_tests) in
            let cut : without_feed x ≡ take (length x - 1) x = rw (some, hit) refl in
            cut ∙ (ap (λ m. take m x) (omega arith) ∙ sym line_is)
        | inr h ↦
            let last : (nat_le 1 (length x) && eqb (get_or x (length x - 1) 0) 10) ≡ false = elim (cases_lt 0 (length x)) [
              | inl s ↦ (let m : eqb (get_or x (length x - 1) 0) 10 ≡ false = rw (same_at (λ y. eqb y 10) xs x rest i is len first (length x - 1) (omega arith)) (first.0 (length x - 1) 0 (omega arith) (omega arith)) in let some : nat_le 1 (length x) ≡ true = grind (arith, nat_tests) in rw (some, m) refl)
              | inr z ↦ (let none : nat_le 1 (length x) ≡ false = grind (arith, nat_tests) in simp none)
            ] in
            let whole : take (min i (length xs)) x ≡ x = take_all (min i (length xs)) x (omega arith) in
            rw last (sym (line_is ∙ whole))
      ]

-- a way to cut a piece that leaves what stands before its line feed
abbrev Cuts : (List ℕ → List ℕ) → Type 0
Cuts v = (xs x rest : List ℕ) (i : ℕ) → xs ≡ x ++ rest → length x ≡ min (i + 1) (length xs) → IsFirstMatchOrLen (λ y. eqb y 10) xs i → v x ≡ before 10 x

piece : (v : List ℕ → List ℕ) → Cuts v → (xs x rest : List ℕ) (i : ℕ) → xs ≡ x ++ rest → length x ≡ min (i + 1) (length xs) → IsFirstMatchOrLen (λ y. eqb y 10) xs i → 0 < length xs → lines_of xs ≡ v x ∷ lines_of rest
piece v cuts xs x rest i is len first some =
    let f : before 10 xs ≡ v x = fronts (λ y. eqb y 10) xs x rest i is len first ∙ sym (cuts xs x rest i is len first) in
    let b : after 10 xs ≡ rest = backs (λ y. eqb y 10) xs x rest i is len first in
    lines_cut xs some ∙ rw (f, b)

module _ {F : Type 0} (g : Mut F (Bor ℕ × Unit {0}) Bool) where
  abbrev pub pieces : SplitInclusive ℕ F → Option (Bor (List ℕ)) → SplitInclusive ℕ F → Type 0
  pieces s r t = MatchOption r ((length (split_inclusive_rest s) ≡ 0) × (t ≡ s))
      (λ x. (split_inclusive_rest s ≡ x.now ++ split_inclusive_rest t) × ((i : ℕ) × (length x.now ≡ min (i + 1) (length (split_inclusive_rest s)))
      × ((p : ℕ → Bool) → ComputesKey g p (split_inclusive_callee s) → ComputesKey g p (split_inclusive_callee t) × IsFirstMatchOrLen p (split_inclusive_rest s) i)) × (0 < length (split_inclusive_rest s)))

  road : (v : List ℕ → List ℕ) → Cuts v → (s : SplitInclusive ℕ F) → ComputesKey g (λ y. eqb y 10) (split_inclusive_callee s) → YieldsList pieces (λ x. v x.now) s (lines_of (split_inclusive_rest s))
  road v cuts s = YieldsList-from_shown_while pieces (λ x. v x.now) (λ t. lines_of (split_inclusive_rest t)) (λ t. ComputesKey g (λ y. eqb y 10) (split_inclusive_callee t))
      (λ t u h k. ap (λ xs. length (lines_of xs)) (nil_from_length (split_inclusive_rest t) k.0))
      (λ t x u h k. let m = k.1.2 (λ y. eqb y 10) h in (m.0, piece v cuts (split_inclusive_rest t) x.now (split_inclusive_rest u) k.1.0 k.0 k.1.1 m.1 k.2))
      s

  starts : (v : List ℕ → List ℕ) → Cuts v → (s : SplitInclusive ℕ F) (f : F) (text : List ℕ) → split_inclusive_rest s ≡ text → split_inclusive_callee s ≡ f → ((y : ℕ) (b : Bool) (q : F) → CalledAt g f y b q → (q ≡ f) × (b ≡ eqb y 10)) → YieldsList pieces (λ x. v x.now) s (lines_of text)
  starts v cuts s f text rest callee tests =
      subst (λ xs. YieldsList pieces (λ x. v x.now) s (lines_of xs)) rest (road v cuts s (subst (ComputesKey g (λ y. eqb y 10)) (sym callee) (always_returns_same g (λ a r. r ≡ eqb a.0.now 10) f (λ a r q k. let m = tests a.0.now r q (record { shown = a.0; shows = refl; called = k }) in (m.1, m.0)))))

-- in a `for` over the pieces of a text: the piece that comes is the next line, and at the end no line is left
module _ {F : Type 0} {g : Mut F (Bor ℕ × Unit {0}) Bool} (s t u : SplitInclusive ℕ F) (f : F) (text : List ℕ) (xs : List (Bor (List ℕ))) (r : Option (Bor (List ℕ))) (so_far : Yields (pieces g) s xs t) (rest : split_inclusive_rest s ≡ text) (callee : split_inclusive_callee s ≡ f) (tests : (y : ℕ) (b : Bool) (q : F) → CalledAt g f y b q → (q ≡ f) × (b ≡ eqb y 10)) (step : pieces g t r u) where
  turn : (v : List ℕ → List ℕ) → Cuts v → (x : Bor (List ℕ)) → r ≡ Some x → (length xs < length (lines_of text)) × (v x.now ≡ get_or (lines_of text) (length xs) (v x.now))
  turn v cuts x is = YieldsList-turn (starts g v cuts s f text rest callee tests) xs t so_far r u x is step

  -- by what stands before its line feed
  pub piece_turn : (x : Bor (List ℕ)) → r ≡ Some x → (length xs < length (lines_of text)) × (before 10 x.now ≡ get_or (lines_of text) (length xs) (before 10 x.now))
  piece_turn = turn (before 10) (λ xs x rest i is len first. refl)

  -- by what a line feed taken off its end leaves
  pub line_turn : (x : Bor (List ℕ)) → r ≡ Some x → (length xs < length (lines_of text)) × (without_feed x.now ≡ get_or (lines_of text) (length xs) (without_feed x.now))
  line_turn = turn without_feed bare

  pub piece_end : r ≡ None → length xs ≡ length (lines_of text)
  piece_end is = (YieldsList-end (starts g without_feed bare s f text rest callee tests) xs t so_far r u is step).1
