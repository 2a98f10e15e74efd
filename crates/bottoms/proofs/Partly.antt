-- Where a part lies, and what another part in its place leaves. Assumes nothing.
use Rattle.std.proofs.Common.{◌≡◌, ℕ, zero, suc, ◌+◌, ◌*◌, ◌<◌, ◌≤◌, ◌⊎◌, List, length, get_or, take, drop, sym, ap, ◌∙◌, mul-le-mul_right, zero-mul, suc-mul, add-one, arith, rules}
use Rattle.std.specs.Simd.{first_chunks}
use Rattle.std.proofs.lemmas.List.{places, same_lists, drop-drop}
use Rattle.cells.specs.Calls.{padded}
use Rattle.bottoms.specs.Parts.{part_at, with_part, put}

apart : (n p q : ℕ) → (q ≡ p → ⊥) → (q * n + n ≤ p * n) ⊎ (p * n + n ≤ q * n)
apart n p q ne = grind (arith, mul-le-mul_right {m = q + 1} {n = p} n, mul-le-mul_right {m = p + 1} {n = q} n, suc-mul p n, suc-mul q n, add-one p, add-one q)

-- bytes that are written where a part lies
pub put_part : (buf ys : List ℕ) (n p : ℕ) → p * n + n ≤ length buf → length ys ≡ n → put buf (p * n) ys ≡ with_part n buf p ys
put_part buf ys n p room whole = same_lists _ _ (search (rules, places)) (λ k d h. grind (arith, places, room, whole))

-- the first z bytes of a longer cell
pub take_padded : (z n : ℕ) (bytes : List ℕ) → length bytes ≤ z → z ≤ n → take z (padded n bytes) ≡ padded z bytes
take_padded z n bytes short long = same_lists _ _ (search (rules, places)) (λ k d h. grind (arith, places, short, long))

-- part p of a buffer that has it becomes ys
module _ (buf ys : List ℕ) (n p : ℕ) (room : p * n + n ≤ length buf) (whole : length ys ≡ n) where
  pub length_with : length (with_part n buf p ys) ≡ length buf
  length_with = search (rules, places)

  pub part_here : part_at n (with_part n buf p ys) p ≡ ys
  part_here = same_lists _ _ (search (rules, places)) (λ k d h. grind (arith, places))

  pub part_there : (q : ℕ) → (q ≡ p → ⊥) → part_at n (with_part n buf p ys) q ≡ part_at n buf q
  part_there q ne =
      let w = apart n p q ne in
      same_lists _ _ (search (rules, places)) (λ k d h. grind (arith, places, w))

-- a page among those of a buffer
pub chunk_at : (n k : ℕ) (buf : List ℕ) (p : ℕ) (d : List ℕ) → p < k → get_or (first_chunks n k buf) p d ≡ part_at n buf p
chunk_at n zero buf p d h = absurd (omega arith)
chunk_at n (suc k) buf zero d h = ap (λ i. take n (drop i buf)) (sym (zero-mul n))
chunk_at n (suc k) buf (suc p) d h = chunk_at n k (drop n buf) p d (omega arith) ∙ ap (take n) (drop-drop (p * n) n buf ∙ ap (λ i. drop i buf) (omega (arith, suc-mul p n)))
