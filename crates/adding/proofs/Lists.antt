-- Sums of lists. Assumes nothing.
use Rattle.std.proofs.Common.{◌≡◌, ℕ, zero, suc, ◌+◌, List, [], ◌∷◌, ◌++◌, length, replicate, sym, refl, ap, ◌∙◌, add-zero, suc-ne-zero, arith}
use native.Mathlib.Nat.{suc_inj}
use Rattle.adding.specs.Sums.{Laws, sum, added}

pub length-sum : {E : Type 0} (add : E → E → E) (xs ys : List E) → length xs ≡ length ys → length (sum add xs ys) ≡ length xs
length-sum add [] ys e = refl
length-sum add (x ∷ xs) [] e = absurd (suc-ne-zero (length xs) e)
length-sum add (x ∷ xs) (y ∷ ys) e = ap suc (length-sum add xs ys (suc_inj e))

-- ---- sums keep the four laws; those of the zero want lists of one length

module _ {E : Type 0} {none : E} {add : E → E → E} (laws : Laws none add) where
  pub sum_assoc : (xs ys zs : List E) → sum add (sum add xs ys) zs ≡ sum add xs (sum add ys zs)
  sum_assoc [] ys zs = refl
  sum_assoc (x ∷ xs) [] zs = refl
  sum_assoc (x ∷ xs) (y ∷ ys) [] = refl
  sum_assoc (x ∷ xs) (y ∷ ys) (z ∷ zs) = cc (laws.assoc x y z, sum_assoc xs ys zs)

  pub sum_comm : (xs ys : List E) → sum add xs ys ≡ sum add ys xs
  sum_comm [] [] = refl
  sum_comm [] (y ∷ ys) = refl
  sum_comm (x ∷ xs) [] = refl
  sum_comm (x ∷ xs) (y ∷ ys) = cc (laws.comm x y, sum_comm xs ys)

  pub sum_zeros : (n : ℕ) (xs : List E) → length xs ≡ n → sum add xs (replicate n none) ≡ xs
  sum_zeros n [] e = refl
  sum_zeros zero (x ∷ xs) e = absurd (suc-ne-zero (length xs) e)
  sum_zeros (suc n) (x ∷ xs) e = cc (laws.neutral x, sum_zeros n xs (suc_inj e))

  pub sum_self : (n : ℕ) (xs : List E) → length xs ≡ n → sum add xs xs ≡ replicate n none
  sum_self zero [] e = refl
  sum_self zero (x ∷ xs) e = absurd (suc-ne-zero (length xs) e)
  sum_self (suc n) [] e = absurd (suc-ne-zero n (sym e))
  sum_self (suc n) (x ∷ xs) e = cc (laws.cancels x, sum_self n xs (suc_inj e))

-- a shorter list is added as if zeros followed it
pub added-filled : {E : Type 0} {none : E} {add : E → E → E} → Laws none add → (xs ys : List E) (n : ℕ) → length xs ≡ length ys + n
    → added add xs ys ≡ sum add xs (ys ++ replicate n none)
added-filled laws [] ys n e = refl
added-filled {add = add} laws (x ∷ xs) [] zero e = absurd (suc-ne-zero (length xs) (e ∙ add-zero 0))
added-filled {E = E} {none = none} {add = add} laws (x ∷ xs) [] (suc n) e = cc (laws.neutral x, sum_zeros laws n xs (omega arith))
added-filled {E = E} {add = add} laws (x ∷ xs) (y ∷ ys) n e = cc (added-filled laws xs ys n (omega arith))
