-- Packing and unpacking. Assumes nothing.
use Rattle.std.proofs.Common.{◌≡◌, ℕ, zero, suc, ◌+◌, ◌*◌, ◌/◌, ◌%◌, ◌<◌, ◌≤◌, true, eqb, leb, List, [], ◌∷◌, ◌++◌, map, length, get_or, take, drop, Some, Ok, sym, refl, ap, ◌∙◌, arith, w16, to_z, of_z}
use Rattle.std.specs.List.{flat_map, AllByRecursion as All}
use Rattle.std.specs.Simd.{first_chunks}
use Rattle.std.proofs.lemmas.Bool.Decides.{nat_tests}
use Rattle.std.proofs.lemmas.Int.{of_z-to_z}
use Rattle.pitch.specs.declared.table.Axis.{Axis}
use Rattle.pitch.specs.declared.table.Axis.TheVariants.{X, Y, Z}
use Rattle.pitch.specs.Block.{Parts, code, four_of, head_of, block_of, entry_in, entries_in, screw_in, count_in, axis_of, headed, parsed}
use Rattle.std.proofs.lemmas.List.{nil_from_length, length-drop, length-map, drop_more, get_or-drop}
use Rattle.pitch.specs.declared.table.Entry.{Entry}

-- the four bytes of an entry give it again, since its numbers have 16 bits
abbrev pub Fitting : Entry → Type 0
Fitting e = entry_in (four_of e) ≡ e

length_chunks : (n : ℕ) (xs : List ℕ) → length (first_chunks 4 n xs) ≡ n
length_chunks zero xs = refl
length_chunks (suc n) xs = ap suc (length_chunks n (drop 4 xs))

pub length_entries : (bs : List ℕ) (n : ℕ) → length (entries_in bs n) ≡ n
length_entries bs n = length-map (first_chunks 4 n (drop 8 bs)) entry_in ∙ length_chunks n (drop 8 bs)

pub unpacked : (bs body : List ℕ) (es : List Entry) (n : ℕ) → body ≡ drop 8 bs → length body ≡ 4 * n → es ≡ map entry_in (first_chunks 4 (length body / 4) body) → es ≡ entries_in bs n
unpacked bs body es n is len all =
    let count : length body / 4 ≡ n = omega arith in
    all ∙ rw (count, is)

two_bytes : (n : ℕ) → n < 65536 → n % 256 + (n / 256 % 256) * 256 ≡ n
two_bytes n h = omega arith

low_byte : (a b : ℕ) → a < 256 → b < 256 → (a + b * 256) % 256 ≡ a
low_byte a b h k = omega arith

high_byte : (a b : ℕ) → a < 256 → b < 256 → (a + b * 256) / 256 % 256 ≡ b
high_byte a b h k = omega arith

low : (a b : ℕ) → a < 256 → b < 256 → of_z w16 (to_z w16 (a + b * 256)) % 256 ≡ a
low a b h k = let e : of_z w16 (to_z w16 (a + b * 256)) ≡ a + b * 256 = of_z-to_z w16 (a + b * 256) (omega arith) in rw e (omega arith)

high : (a b : ℕ) → a < 256 → b < 256 → of_z w16 (to_z w16 (a + b * 256)) / 256 % 256 ≡ b
high a b h k = let e : of_z w16 (to_z w16 (a + b * 256)) ≡ a + b * 256 = of_z-to_z w16 (a + b * 256) (omega arith) in rw e (omega arith)

-- the bytes of the entries that fours of bytes make are those bytes
body_back : (n : ℕ) (body : List ℕ) → length body ≡ 4 * n → ((i : ℕ) → get_or body i 0 < 256) → flat_map four_of (map entry_in (first_chunks 4 n body)) ≡ body
body_back zero body len small = sym (nil_from_length body len)
body_back (suc n) [] len small = absurd (omega arith)
body_back (suc n) (a ∷ []) len small = absurd (omega arith)
body_back (suc n) (a ∷ b ∷ []) len small = absurd (omega arith)
body_back (suc n) (a ∷ b ∷ c ∷ []) len small = absurd (omega arith)
body_back (suc n) (a ∷ b ∷ c ∷ d ∷ rest) len small =
    rw (low a b (small 0) (small 1), high a b (small 0) (small 1), low c d (small 2) (small 3), high c d (small 2) (small 3), body_back n rest (omega arith) (λ i. small (suc (suc (suc (suc i))))))

-- a list of bytes that unpacks is the block of what it unpacks to
module _ (bs : List ℕ) (small : (i : ℕ) → get_or bs i 0 < 256) where
  axis_back : (b : ℕ) (a : Axis) → axis_of b ≡ Some a → code a ≡ b
  axis_back b X e = grind (arith, nat_tests)
  axis_back b Y e = grind (arith, nat_tests)
  axis_back b Z e = grind (arith, nat_tests)

  whole : (a : Axis) → 8 ≤ length bs → get_or bs 0 0 ≡ 80 → get_or bs 1 0 ≡ 84 → get_or bs 7 0 ≡ 0 → axis_of (get_or bs 2 0) ≡ Some a → length bs ≡ 8 + 4 * count_in bs → bs ≡ block_of (record { axis = a; screw = screw_in bs; entries = entries_in bs (count_in bs) })
  whole a long b0 b1 b7 name len =
      let rest : flat_map four_of (entries_in bs (count_in bs)) ≡ drop 8 bs = body_back (count_in bs) (drop 8 bs) (omega (arith, length-drop 8 bs)) (λ i. rw get_or-drop (small (8 + i))) in
      let n : length (entries_in bs (count_in bs)) ≡ count_in bs = length_entries bs (count_in bs) in
      let p0 : drop 0 bs ≡ get_or bs 0 0 ∷ drop 1 bs = drop_more bs 0 0 (omega arith) in
      let p1 : drop 1 bs ≡ get_or bs 1 0 ∷ drop 2 bs = drop_more bs 1 0 (omega arith) in
      let p2 : drop 2 bs ≡ get_or bs 2 0 ∷ drop 3 bs = drop_more bs 2 0 (omega arith) in
      let p3 : drop 3 bs ≡ get_or bs 3 0 ∷ drop 4 bs = drop_more bs 3 0 (omega arith) in
      let p4 : drop 4 bs ≡ get_or bs 4 0 ∷ drop 5 bs = drop_more bs 4 0 (omega arith) in
      let p5 : drop 5 bs ≡ get_or bs 5 0 ∷ drop 6 bs = drop_more bs 5 0 (omega arith) in
      let p6 : drop 6 bs ≡ get_or bs 6 0 ∷ drop 7 bs = drop_more bs 6 0 (omega arith) in
      let p7 : drop 7 bs ≡ get_or bs 7 0 ∷ drop 8 bs = drop_more bs 7 0 (omega arith) in
      let c : code a ≡ get_or bs 2 0 = axis_back (get_or bs 2 0) a name in
      let s0 : screw_in bs % 256 ≡ get_or bs 3 0 = low_byte _ _ (small 3) (small 4) in
      let s1 : screw_in bs / 256 % 256 ≡ get_or bs 4 0 = high_byte _ _ (small 3) (small 4) in
      let n0 : count_in bs % 256 ≡ get_or bs 5 0 = low_byte _ _ (small 5) (small 6) in
      let n1 : count_in bs / 256 % 256 ≡ get_or bs 6 0 = high_byte _ _ (small 5) (small 6) in
      cc

  pub block_back : (a : Axis) (s n : ℕ) (es : List Entry) → s ≡ screw_in bs → n ≡ count_in bs → es ≡ entries_in bs n → 8 ≤ length bs → get_or bs 0 0 ≡ 80 → get_or bs 1 0 ≡ 84 → get_or bs 7 0 ≡ 0 → axis_of (get_or bs 2 0) ≡ Some a → length bs ≡ 8 + 4 * n → bs ≡ block_of (record { axis = a; screw = s; entries = es })
  block_back a s n es is-s is-n is-es long b0 b1 b7 name len =
      let es-is : es ≡ entries_in bs (count_in bs) = rw is-n at is-es in
      rw (is-s, es-is) (whole a long b0 b1 b7 name (rw is-n at len))

-- the parts of a table as they are in memory
pub record Sound (p : Parts) : Type 0 where
  pub few : length p.entries ≤ 2000
  pub screw : p.screw < 65536
  pub fits : All Fitting p.entries

entries_back : (es : List Entry) → All Fitting es → map entry_in (first_chunks 4 (length es) (flat_map four_of es)) ≡ es
entries_back [] fits = refl
entries_back (e ∷ es) fits = rw (fits.0, entries_back es fits.1)

axis_again : (a : Axis) → axis_of (code a) ≡ Some a
axis_again X = refl
axis_again Y = refl
axis_again Z = refl

length_body : (es : List Entry) → length (flat_map four_of es) ≡ 4 * length es
length_body [] = refl
length_body (e ∷ es) = omega (arith, length_body es)

parsed_if : (bs : List ℕ) (a : Axis) → headed bs ≡ true → axis_of (get_or bs 2 0) ≡ Some a → count_in bs ≤ 2000 → length bs ≡ 8 + 4 * count_in bs → parsed bs ≡ Ok (record { axis = a; screw = screw_in bs; entries = entries_in bs (count_in bs) })
parsed_if bs a h1 h2 h3 h4 =
    let t3 : leb (count_in bs) 2000 ≡ true = grind (arith, nat_tests) in
    let t4 : eqb (length bs) (8 + 4 * count_in bs) ≡ true = grind (arith, nat_tests) in
    rw (h1, h2, t3, t4)

-- at the end of the loop
pub packed_all : (a : Axis) (s n i : ℕ) (es : List Entry) (bs : List ℕ) → n ≡ length es → take i es ≡ es → length es ≤ 2000 → s < 65536 → (bs ≡ head_of a s n ++ flat_map four_of (take i es)) × All Fitting (take i es) → (bs ≡ block_of (record { axis = a; screw = s; entries = es })) × Sound (record { axis = a; screw = s; entries = es })
packed_all a s n i es bs count whole few screw (is, fits) = (is ∙ rw (count, whole), record { few = few; screw = screw; fits = rw whole at fits })

-- a block is read as what it was made of
pub parsed_block : (p : Parts) → Sound p → parsed (block_of p) ≡ Ok p
parsed_block p sound =
    let n : count_in (block_of p) ≡ length p.entries = two_bytes (length p.entries) (omega (arith, sound.few)) in
    let s : screw_in (block_of p) ≡ p.screw = two_bytes p.screw sound.screw in
    let long : length (block_of p) ≡ 8 + 4 * count_in (block_of p) = omega (arith, n, length_body p.entries) in
    let es : entries_in (block_of p) (length p.entries) ≡ p.entries = entries_back p.entries sound.fits in
    let head : headed (block_of p) ≡ true = grind (arith, nat_tests) in
    parsed_if (block_of p) p.axis head (axis_again p.axis) (omega (arith, n, sound.few)) long ∙ rw (n, s, es)
