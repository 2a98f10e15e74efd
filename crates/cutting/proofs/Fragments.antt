-- The fragments of a block: their sizes, and the block again. Assumes nothing.
use Rattle.std.proofs.Common.{◌≡◌, ℕ, zero, suc, ◌+◌, ◌-◌, ◌*◌, ◌<◌, ◌≤◌, List, [], ◌∷◌, ◌++◌, length, take, drop, sym, refl, ap, ◌∙◌, ⊎_elim, append_assoc, append-nil, suc-mul, zero-mul, arith, length-append, length-drop, take-append-drop, length-take}
use lib.ListN.{length-replicate, replicate-append-replicate}
use Rattle.std.specs.List.{AllByRecursion}
use Rattle.std.proofs.lemmas.List.{take_all, drop_all}
use Rattle.std.proofs.ByRecursion.{All-append, All-take, All-drop}
use Rattle.std.proofs.lemmas.Bool.{cases_lt}
use Rattle.coding.specs.Blocks.{zeros, Bytes}
use Rattle.coding.proofs.ByteSpaces.{byte_space}
use Rattle.cutting.specs.Cuts.{fragment, cut, CutIsBlock, CutIsWhole}

pub length-fragment : (s : ℕ) (bytes : List ℕ) → length (fragment s bytes) ≡ s
length-fragment s bytes = simp (length-append, length-take, length-replicate) (omega arith)

pub length_cut : (m s : ℕ) (bytes : List ℕ) → length (cut m s bytes) ≡ m
length_cut zero s bytes = refl
length_cut (suc m) s bytes = ap suc (length_cut m s (drop s bytes))

pub fragment_bytes : (s : ℕ) (bytes : List ℕ) → AllByRecursion (λ (x : ℕ). x < 256) bytes → Bytes s (fragment s bytes)
fragment_bytes s bytes h = (
  length-fragment s bytes,
  All-append (λ (x : ℕ). x < 256) (take s bytes) (zeros (s - length bytes)) (All-take (λ (x : ℕ). x < 256) s bytes h) (byte_space (s - length bytes)).In-none.1,
)

All-cut : (m s : ℕ) (bytes : List ℕ) → AllByRecursion (λ (x : ℕ). x < 256) bytes → AllByRecursion (Bytes s) (cut m s bytes)
All-cut zero s bytes h = tt
All-cut (suc m) s bytes h = (fragment_bytes s bytes h, All-cut m s (drop s bytes) (All-drop (λ (x : ℕ). x < 256) s bytes h))

pub is_block : CutIsBlock
is_block m s bytes h = (length_cut m s bytes, All-cut m s bytes h)

-- one fragment, and the others by what is left of the bytes
module _ (m s : ℕ) (bytes rest : List ℕ) (again : rest ≡ drop s bytes ++ zeros (m * s - length (drop s bytes))) where
  short : length bytes < s → fragment s bytes ++ rest ≡ bytes ++ zeros (suc m * s - length bytes)
  short lt =
      let none : drop s bytes ≡ [] = drop_all s bytes (omega arith) in
      let all : m * s - 0 ≡ m * s = omega arith in
      let filler : s - length bytes + m * s ≡ suc m * s - length bytes = omega (arith, suc-mul m s) in
      ap (λ t. fragment s bytes ++ t) (again ∙ ap (λ r. r ++ zeros (m * s - length r)) none ∙ ap zeros all)
      ∙ ap (λ t. (t ++ zeros (s - length bytes)) ++ zeros (m * s)) (take_all s bytes (omega arith))
      ∙ append_assoc bytes (zeros (s - length bytes)) (zeros (m * s))
      ∙ ap (λ t. bytes ++ t) (replicate-append-replicate (s - length bytes) (m * s) 0 ∙ ap zeros filler)

  long : s ≤ length bytes → fragment s bytes ++ rest ≡ bytes ++ zeros (suc m * s - length bytes)
  long le =
      let none : s - length bytes ≡ 0 = omega arith in
      let filler : m * s - length (drop s bytes) ≡ suc m * s - length bytes = simp length-drop (omega (arith, suc-mul m s)) in
      ap (λ n. (take s bytes ++ zeros n) ++ rest) none
      ∙ ap (λ t. t ++ rest) (append-nil (take s bytes))
      ∙ ap (λ t. take s bytes ++ t) again
      ∙ sym (append_assoc (take s bytes) (drop s bytes) (zeros (m * s - length (drop s bytes))))
      ∙ ap (λ t. t ++ zeros (m * s - length (drop s bytes))) (take-append-drop s bytes)
      ∙ ap (λ n. bytes ++ zeros n) filler

pub whole_again : CutIsWhole
whole_again zero s [] h = let none : 0 ≡ 0 * s - 0 = omega (arith, zero-mul s) in ap zeros none
whole_again zero s (x ∷ bytes) h = absurd (omega (arith, zero-mul s))
whole_again (suc m) s bytes h =
    let again = whole_again m s (drop s bytes) (simp length-drop (omega (arith, suc-mul m s))) in
    ⊎_elim (short m s bytes _ again) (long m s bytes _ again) (cases_lt (length bytes) s)
