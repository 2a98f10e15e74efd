-- Numbers as the library writes them. Assumes nothing.
use Rattle.std.proofs.Common.{◌≡◌, ◌≢◌, ℕ, ◌+◌, ◌-◌, ◌*◌, ◌^◌, ◌<◌, ◌≤◌, true, false, ◌&&◌, leb, List, [], ◌∷◌, length, get_or, Some, None, Option, refl, ap, ◌∙◌, arith, rules}
use Rattle.std.specs.List.{AllByRecursion as All}
use Rattle.std.specs.Fmt.{decimal}
use Rattle.std.specs.Str.{all_ascii_digits}
use Rattle.std.specs.Str.Parse.{AllDigits}
use Rattle.std.proofs.lemmas.Bool.Decides.{nat_tests}
use Rattle.std.proofs.lemmas.Fmt.{digits_decimal, digits_value-decimal, decimal_is_IsNumeral}
use Rattle.std.proofs.lemmas.Str.Parse.{IsNumeralModel, digit_from_value, numerals_by_fold, digit_at}
use Rattle.pitch_text.specs.Words.{digit, read_on, numeral}

-- the number of digits after those of n
abbrev pub value_after : ℕ → List ℕ → ℕ
value_after n [] = n
value_after n (c ∷ cs) = value_after (n * 10 + (c - 48)) cs

own : IsNumeralModel (λ ds. all_ascii_digits ds ≡ true) (value_after 0)
own = numerals_by_fold _ (search rules) value_after (search rules)

-- a value where P holds, and none where it does not
abbrev SomeIff : {A : Type 0} → Option A → Type 0 → A → Type 0
SomeIff (Some x) P v = P × (x ≡ v)
SomeIff None P v = ¬ P

value_le : (n : ℕ) (ds : List ℕ) → n ≤ value_after n ds
value_le n [] = omega arith
value_le n (c ∷ cs) = omega (arith, value_le (n * 10 + (c - 48)) cs)

read_is : (limit n : ℕ) (ds : List ℕ) → n ≤ limit → SomeIff (read_on limit n ds) ((all_ascii_digits ds ≡ true) × (value_after n ds ≤ limit)) (value_after n ds)
read_is limit n [] le = ((refl, le), refl)
read_is limit n (c ∷ cs) le = elim (digit c) as (λ b. digit c ≡ b → SomeIff (read_on limit n (c ∷ cs)) ((all_ascii_digits (c ∷ cs) ≡ true) × (value_after n (c ∷ cs) ≤ limit)) (value_after n (c ∷ cs))) [
  | false ↦ λ d. (let r : read_on limit n (c ∷ cs) ≡ None = rw d in rw r (λ h. let z : (digit c && all_ascii_digits cs) ≡ true = h.0 in absurd (grind (arith, nat_tests))))
  | true ↦ λ d. elim (leb (n * 10 + (c - 48)) limit) as (λ b. leb (n * 10 + (c - 48)) limit ≡ b → SomeIff (read_on limit n (c ∷ cs)) ((all_ascii_digits (c ∷ cs) ≡ true) × (value_after n (c ∷ cs) ≤ limit)) (value_after n (c ∷ cs))) [
    | false ↦ λ f. (let r : read_on limit n (c ∷ cs) ≡ None = rw (d, f) in rw r (λ h. let up = value_le (n * 10 + (c - 48)) cs in let z : limit < n * 10 + (c - 48) = grind (arith, nat_tests) in omega (arith, h.1)))
    | true ↦ λ t. (let r : read_on limit n (c ∷ cs) ≡ read_on limit (n * 10 + (c - 48)) cs = rw (d, t) in let z : all_ascii_digits (c ∷ cs) ≡ all_ascii_digits cs = rw d in rw (r, z) (read_is limit (n * 10 + (c - 48)) cs (grind (arith, nat_tests))))
  ] refl
] refl

-- what a numeral is
abbrev IsNumeralOf : ℕ → List ℕ → Type 0
IsNumeralOf limit w = (all_ascii_digits w ≡ true) × (0 < length w) × (value_after 0 w ≤ limit)

numeral_is : (limit : ℕ) (w : List ℕ) → SomeIff (numeral limit w) (IsNumeralOf limit w) (value_after 0 w)
numeral_is limit [] = λ h. omega (arith, h.1)
numeral_is limit (x ∷ xs) = elim (read_on limit 0 (x ∷ xs)) as (λ o. SomeIff o ((all_ascii_digits (x ∷ xs) ≡ true) × (value_after 0 (x ∷ xs) ≤ limit)) (value_after 0 (x ∷ xs)) → SomeIff o (IsNumeralOf limit (x ∷ xs)) (value_after 0 (x ∷ xs))) [
  | None ↦ λ h k. h (k.0, k.2)
  | Some n ↦ λ h. ((h.0.0, omega arith, h.0.1), h.1)
] (read_is limit 0 (x ∷ xs) (omega arith))

-- the digits of a number are read as that number
some_is : (o : Option ℕ) (P : Type 0) (v : ℕ) → SomeIff o P v → P → o ≡ Some v
some_is None P v h p = absurd (h p)
some_is (Some x) P v h p = ap Some h.1

pub numeral_decimal : (limit n : ℕ) → n ≤ limit → n < 2 ^ 64 → numeral limit (decimal n) ≡ Some n
numeral_decimal limit n le h =
    let v : value_after 0 (decimal n) ≡ n = digits_value-decimal own n h in
    some_is (numeral limit (decimal n)) _ _ (numeral_is limit (decimal n)) (digits_decimal own n h, (decimal_is_IsNumeral n h).0.0, omega (arith, v, le)) ∙ ap Some v

-- a byte of a number: a minus or a digit
abbrev pub NumeralByte : ℕ → Type 0
NumeralByte x = (45 ≤ x) × (x ≤ 57)

digits_numeral : (ds : List ℕ) → AllDigits 10 ds → All NumeralByte ds
digits_numeral [] h = tt
digits_numeral (c ∷ cs) h = let r = digit_from_value c h.0 in ((omega (arith, r.0), r.1), digits_numeral cs h.1)

-- a word of a number
pub record Numeric (w : List ℕ) : Type 0 where
  pub bytes : All NumeralByte w
  pub some : 0 < length w

pub decimal_numeric : (n : ℕ) → n < 2 ^ 64 → Numeric (decimal n)
decimal_numeric n h = let d = decimal_is_IsNumeral n h in record { bytes = digits_numeral (decimal n) d.0.1; some = d.0.0 }

pub no_minus : (n : ℕ) → n < 2 ^ 64 → get_or (decimal n) 0 0 ≢ 45
no_minus n h e = let r = digit_at (decimal n) 0 (decimal_is_IsNumeral n h).0.1 (decimal_is_IsNumeral n h).0.0 in omega (arith, r.0, e)
