-- Writing a text and reading it again. Assumes nothing.
use Rattle.std.proofs.Common.{◌≡◌, ◌≢◌, get_or, ℕ, suc, ◌+◌, ◌^◌, ◌<◌, ◌≤◌, Bool, true, false, eqb, ltb, List, [], ◌∷◌, ◌++◌, length, ℤ, pos, negsuc, Some, Ok, codes, decimal, refl, ap, ◌∙◌, arith, w16, SFits}
use Rattle.std.specs.Fmt.{signed_decimal}
use Rattle.std.specs.List.{flat_map, AllByRecursion as All}
use Rattle.std.specs.Str.{bytes_eq}
use Rattle.std.proofs.ByRecursion.{All-weaker, All-append}
use Rattle.std.proofs.lemmas.List.{append_assoc, append-nil, length-append, length_push}
use Rattle.std.proofs.lemmas.Bool.Decides.{nat_tests}
use Rattle.pitch.specs.declared.table.Axis.{Axis}
use Rattle.pitch.specs.declared.table.Axis.TheVariants.{X, Y, Z}
use Rattle.pitch.specs.declared.table.Entry.{Entry}
use Rattle.pitch_text.specs.declared.text.Statement.TheVariants.{Named, Numbered, Errors}
use Rattle.pitch_text.specs.Words.{up_to, before, blank, words_of, lines_of, numeral, signed_in}
use Rattle.pitch.specs.Names.{axis_name}
use Rattle.pitch.specs.Block.{Parts}
use Rattle.pitch_text.specs.Text.{line_of, head_lines, text_of, pair_statement, said, statement_of, statement_in, start, has_axis, ready, read_lines, read_text}
use Rattle.pitch_text.proofs.Scans.{from, word_first}
use Rattle.pitch_text.proofs.Numbers.{NumeralByte, Numeric, decimal_numeric, numeral_decimal, no_minus}
use Rattle.pitch_text.proofs.Texts.{lines_cut}

-- an entry of two numbers of 16 bits
abbrev pub Fits16 : Entry → Type 0
Fits16 e = SFits w16 e.forward × SFits w16 e.back

signed_above : (ds : List ℕ) (n : ℕ) → Numeric ds → numeral 32767 ds ≡ Some n → get_or ds 0 0 ≢ 45 → signed_in ds ≡ Some (pos n)
signed_above [] n w v h = absurd (omega (arith, w.some))
signed_above (x ∷ xs) n w v h =
    let t : eqb x 45 ≡ false = grind (arith, nat_tests) in
    rw (t, v)

signed_back : (z : ℤ) → SFits w16 z → signed_in (signed_decimal z) ≡ Some z
signed_back (pos n) f =
    let small : n < 2 ^ 64 = omega (arith, f.sfits) in
    signed_above (decimal n) n (decimal_numeric n small) (numeral_decimal 32767 n (omega (arith, f.sfits)) small) (no_minus n small)
signed_back (negsuc n) f =
    let v : numeral 32768 (decimal (suc n)) ≡ Some (suc n) = numeral_decimal 32768 (suc n) (omega (arith, f.sfits)) (omega (arith, f.sfits)) in
    rw v

signed_numeric : (z : ℤ) → SFits w16 z → Numeric (signed_decimal z)
signed_numeric (pos n) f = decimal_numeric n (omega (arith, f.sfits))
signed_numeric (negsuc n) f = record { bytes = ((omega arith, omega arith), (decimal_numeric (suc n) (omega (arith, f.sfits))).bytes); some = omega arith }

-- where a scan stops
up_to_at : (p : ℕ → Bool) (w : List ℕ) (x : ℕ) (v : List ℕ) → All (λ y. p y ≡ false) w → p x ≡ true → up_to p (w ++ x ∷ v) ≡ w
up_to_at p [] x v a h = rw h
up_to_at p (y ∷ ys) x v a h = rw a.0 (ap (λ t. y ∷ t) (up_to_at p ys x v a.1 h))

from_at : (p : ℕ → Bool) (w : List ℕ) (x : ℕ) (v : List ℕ) → All (λ y. p y ≡ false) w → p x ≡ true → from p (w ++ x ∷ v) ≡ x ∷ v
from_at p [] x v a h = rw h
from_at p (y ∷ ys) x v a h = rw a.0 (from_at p ys x v a.1 h)

up_to_none : (p : ℕ → Bool) (w : List ℕ) → All (λ y. p y ≡ false) w → up_to p w ≡ w
up_to_none p [] a = refl
up_to_none p (y ∷ ys) a = rw a.0 (ap (λ t. y ∷ t) (up_to_none p ys a.1))

from_none : (p : ℕ → Bool) (w : List ℕ) → All (λ y. p y ≡ false) w → from p w ≡ []
from_none p [] a = refl
from_none p (y ∷ ys) a = rw a.0 (from_none p ys a.1)

lines_at : (l rest : List ℕ) → All (λ y. eqb y 10 ≡ false) l → lines_of (l ++ 10 ∷ rest) ≡ l ∷ lines_of rest
lines_at l rest a =
    let front : up_to (λ y. eqb y 10) (l ++ 10 ∷ rest) ≡ l = up_to_at (λ y. eqb y 10) l 10 rest a refl in
    let back : from (λ y. eqb y 10) (l ++ 10 ∷ rest) ≡ 10 ∷ rest = from_at (λ y. eqb y 10) l 10 rest a refl in
    lines_cut (l ++ 10 ∷ rest) (omega (arith, length-append l (10 ∷ rest))) ∙ rw (front, back)

words_at : (w v : List ℕ) → 0 < length w → All (λ y. blank y ≡ false) w → words_of (w ++ 32 ∷ v) ≡ w ∷ words_of v
words_at [] v h a = absurd (omega arith)
words_at (x ∷ xs) v h a =
    let front : up_to blank (xs ++ 32 ∷ v) ≡ xs = up_to_at blank xs 32 v a.1 refl in
    let back : from blank (xs ++ 32 ∷ v) ≡ 32 ∷ v = from_at blank xs 32 v a.1 refl in
    rw a.0 (word_first x (xs ++ 32 ∷ v) ∙ rw (front, back))

words_last : (w : List ℕ) → 0 < length w → All (λ y. blank y ≡ false) w → words_of w ≡ w ∷ []
words_last [] h a = absurd (omega arith)
words_last (x ∷ xs) h a =
    let front : up_to blank xs ≡ xs = up_to_none blank xs a.1 in
    let back : from blank xs ≡ [] = from_none blank xs a.1 in
    rw a.0 (word_first x xs ∙ rw (front, back))

-- a byte that ends no word, no line and begins no comment
abbrev NoDelimiter : ℕ → Type 0
NoDelimiter x = (blank x ≡ false) × (eqb x 35 ≡ false) × (eqb x 10 ≡ false)

undelimited : (w : List ℕ) → All NumeralByte w → All NoDelimiter w
undelimited w h = All-weaker NumeralByte NoDelimiter (λ x p. let low : 45 ≤ x = p.0 in (grind (arith, nat_tests), grind (arith, nat_tests), grind (arith, nat_tests))) w h

-- two words
module _ (w v : List ℕ) (w-some : 0 < length w) (v-some : 0 < length v) (w-free : All NoDelimiter w) (v-free : All NoDelimiter v) where
  pair_statement_lem : statement_in (w ++ 32 ∷ v) ≡ said (pair_statement w v)
  pair_statement_lem =
      let front : before 35 (w ++ 32 ∷ v) ≡ w ++ 32 ∷ v = up_to_none (λ y. eqb y 35) (w ++ 32 ∷ v) (All-append (λ y. eqb y 35 ≡ false) w (32 ∷ v) (All-weaker NoDelimiter (λ y. eqb y 35 ≡ false) (λ x q. q.1) w w-free) (refl, All-weaker NoDelimiter (λ y. eqb y 35 ≡ false) (λ x q. q.1) v v-free)) in
      let words : words_of (w ++ 32 ∷ v) ≡ w ∷ words_of v = words_at w v w-some (All-weaker NoDelimiter (λ y. blank y ≡ false) (λ x q. q.0) w w-free) in
      let last : words_of v ≡ v ∷ [] = words_last v v-some (All-weaker NoDelimiter (λ y. blank y ≡ false) (λ x q. q.0) v v-free) in
      ap (λ l. statement_of (words_of l)) front ∙ (ap statement_of words ∙ ap (λ ws. statement_of (w ∷ ws)) last)

  pair_line : (rest : List ℕ) → lines_of ((w ++ 32 ∷ v) ++ 10 ∷ rest) ≡ (w ++ 32 ∷ v) ∷ lines_of rest
  pair_line rest = lines_at (w ++ 32 ∷ v) rest (All-append (λ y. eqb y 10 ≡ false) w (32 ∷ v) (All-weaker NoDelimiter (λ y. eqb y 10 ≡ false) (λ x q. q.2) w w-free) (refl, All-weaker NoDelimiter (λ y. eqb y 10 ≡ false) (λ x q. q.2) v v-free))

-- a number is no keyword
no_key : (w : List ℕ) (c : ℕ) (cs : List ℕ) → Numeric w → 57 < c → bytes_eq w (c ∷ cs) ≡ false
no_key [] c cs n h = refl
no_key (x ∷ xs) c cs n h =
    let high : x ≤ 57 = n.bytes.0.1 in
    let t : eqb x c ≡ false = grind (arith, nat_tests) in
    rw t

entry_statement : (e : Entry) → Fits16 e → statement_in (signed_decimal e.forward ++ 32 ∷ signed_decimal e.back) ≡ Ok (Some (Errors e))
entry_statement e s =
    let f : Numeric (signed_decimal e.forward) = signed_numeric e.forward s.0 in
    let b : Numeric (signed_decimal e.back) = signed_numeric e.back s.1 in
    let row : statement_in (signed_decimal e.forward ++ 32 ∷ signed_decimal e.back) ≡ said (pair_statement (signed_decimal e.forward) (signed_decimal e.back)) = pair_statement_lem (signed_decimal e.forward) (signed_decimal e.back) f.some b.some (undelimited _ f.bytes) (undelimited _ b.bytes) in
    let k1 : bytes_eq (signed_decimal e.forward) (codes "axis") ≡ false = no_key (signed_decimal e.forward) 97 (codes "xis") f (omega arith) in
    let k2 : bytes_eq (signed_decimal e.forward) (codes "screw") ≡ false = no_key (signed_decimal e.forward) 115 (codes "crew") f (omega arith) in
    row ∙ rw (k1, k2, signed_back e.forward s.0, signed_back e.back s.1)

entry_line : (e : Entry) (rest : List ℕ) → Fits16 e → lines_of (line_of e ++ rest) ≡ (signed_decimal e.forward ++ 32 ∷ signed_decimal e.back) ∷ lines_of rest
entry_line e rest s =
    let f : Numeric (signed_decimal e.forward) = signed_numeric e.forward s.0 in
    let b : Numeric (signed_decimal e.back) = signed_numeric e.back s.1 in
    let split : line_of e ++ rest ≡ (signed_decimal e.forward ++ 32 ∷ signed_decimal e.back) ++ 10 ∷ rest = simp append_assoc in
    ap lines_of split ∙ pair_line (signed_decimal e.forward) (signed_decimal e.back) f.some b.some (undelimited _ f.bytes) (undelimited _ b.bytes) rest

-- the lines of the millimetres
body_read : (n : ℕ) (a : Axis) (s : ℕ) (es fs : List Entry) → All Fits16 fs → length es + length fs ≤ 2000 → read_lines n (ready (record { axis = a; screw = s; entries = es })) (lines_of (flat_map line_of fs)) ≡ Ok (record { axis = a; screw = s; entries = es ++ fs })
body_read n a s es [] fits few = rw (append-nil es)
body_read n a s es (f ∷ fs) fits few =
    let line : lines_of (line_of f ++ flat_map line_of fs) ≡ (signed_decimal f.forward ++ 32 ∷ signed_decimal f.back) ∷ lines_of (flat_map line_of fs) = entry_line f (flat_map line_of fs) fits.0 in
    let row : statement_in (signed_decimal f.forward ++ 32 ∷ signed_decimal f.back) ≡ Ok (Some (Errors f)) = entry_statement f fits.0 in
    let room : ltb (length es) 2000 ≡ true = grind (arith, nat_tests) in
    let grown : length (es ++ f ∷ []) ≡ length es + 1 = length_push es f in
    let again : read_lines (n + 1) (ready (record { axis = a; screw = s; entries = es ++ f ∷ [] })) (lines_of (flat_map line_of fs)) ≡ Ok (record { axis = a; screw = s; entries = (es ++ f ∷ []) ++ fs }) = body_read (n + 1) a s (es ++ f ∷ []) fs fits.1 (omega arith) in
    ap (read_lines n (ready (record { axis = a; screw = s; entries = es }))) line ∙ rw (row, room) (again ∙ ap (λ xs. Ok (record { axis = a; screw = s; entries = xs })) (append_assoc es (f ∷ []) fs))

-- the first two lines
screw_undelimited : All NoDelimiter (codes "screw")
screw_undelimited = ((refl, refl, refl), ((refl, refl, refl), ((refl, refl, refl), ((refl, refl, refl), ((refl, refl, refl), tt)))))

screw_statement_lem : (s : ℕ) → s < 65536 → statement_in (codes "screw " ++ decimal s) ≡ Ok (Some (Numbered s))
screw_statement_lem s h =
    let n : Numeric (decimal s) = decimal_numeric s (omega arith) in
    let v : numeral 65535 (decimal s) ≡ Some s = numeral_decimal 65535 s (omega arith) (omega arith) in
    pair_statement_lem (codes "screw") (decimal s) (omega arith) n.some screw_undelimited (undelimited _ n.bytes) ∙ rw v

screw_line : (s : ℕ) (rest : List ℕ) → s < 65536 → lines_of (codes "screw " ++ ((decimal s ++ codes "\n") ++ rest)) ≡ (codes "screw " ++ decimal s) ∷ lines_of rest
screw_line s rest h =
    let n : Numeric (decimal s) = decimal_numeric s (omega arith) in
    ap (λ xs. lines_of (codes "screw " ++ xs)) (append_assoc (decimal s) (codes "\n") rest) ∙ pair_line (codes "screw") (decimal s) (omega arith) n.some screw_undelimited (undelimited _ n.bytes) rest

axis_statement_lem : (a : Axis) → statement_in (codes "axis " ++ axis_name a) ≡ Ok (Some (Named a))
axis_statement_lem X = refl
axis_statement_lem Y = refl
axis_statement_lem Z = refl

axis_line : (a : Axis) (s : ℕ) (rest : List ℕ) → lines_of (head_lines a s ++ rest) ≡ (codes "axis " ++ axis_name a) ∷ lines_of (codes "screw " ++ ((decimal s ++ codes "\n") ++ rest))
axis_line X s rest = refl
axis_line Y s rest = refl
axis_line Z s rest = refl

-- the text of a table is read as that table
pub text_back : (p : Parts) → length p.entries ≤ 2000 → p.screw < 65536 → All Fits16 p.entries → read_text (text_of p) ≡ Ok p
text_back p few screw fits =
    let body : List ℕ = flat_map line_of p.entries in
    let one = axis_line p.axis p.screw body in
    let two = screw_line p.screw body screw in
    let rest = body_read 2 p.axis p.screw [] p.entries fits (omega arith) in
    ap (read_lines 0 start) one ∙ (rw (axis_statement_lem p.axis) (ap (read_lines 1 (has_axis p.axis)) two ∙ rw (screw_statement_lem p.screw screw) rest))
