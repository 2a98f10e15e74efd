-- Lists of s bytes are a space. Assumes nothing.
use Rattle.std.proofs.Common.{◌≡◌, ℕ, zero, suc, ◌<◌, ◌≢◌, List, [], ◌∷◌, length, replicate, sym, refl, ap, ◌∙◌, arith}
use lib.ListN.{length-replicate}
use lib.Bits.{xor_lt}
use Rattle.std.specs.List.{AllByRecursion}
use Rattle.adding.specs.Sums.{Laws, sum}
use Rattle.adding.specs.Laws.{byte_laws}
use Rattle.adding.proofs.Lists.{length-sum, sum_assoc, sum_comm, sum_zeros, sum_self}
use Rattle.coding.specs.Blocks.{zeros, xors, Bytes}
use Rattle.coding.proofs.Spaces.{Space}

-- so are the lists of one length over any kind of element, where adding keeps a property of the elements
module _ {E : Type 0} {none : E} {add : E → E → E} (laws : Laws none add) (Ok : E → Type 0) (ok-none : Ok none) (ok_add : (x y : E) → Ok x → Ok y → Ok (add x y)) where
  all_replicate : (n : ℕ) → AllByRecursion Ok (replicate n none)
  all_replicate zero = tt
  all_replicate (suc n) = (ok-none, all_replicate n)

  All-sum : (xs ys : List E) → AllByRecursion Ok xs → AllByRecursion Ok ys → AllByRecursion Ok (sum add xs ys)
  All-sum [] ys h k = tt
  All-sum (x ∷ xs) [] h k = tt
  All-sum (x ∷ xs) (y ∷ ys) h k = (ok_add x y h.0 k.0, All-sum xs ys h.1 k.1)

  pub list_space : (n : ℕ) → Space (λ (xs : List E). (length xs ≡ n) × AllByRecursion Ok xs) (replicate n none) (sum add)
  list_space n =
      record {
        In-none = (length-replicate n none, all_replicate n);
        In-add = λ x y h k. (length-sum add x y (h.0 ∙ sym k.0) ∙ h.0, All-sum x y h.1 k.1);
        assoc = sum_assoc laws;
        comm = sum_comm laws;
        unit = λ x h. sum_comm laws (replicate n none) x ∙ sum_zeros laws n x h.0;
        self = λ x h. sum_self laws n x h.0;
      }

pub byte_space : (s : ℕ) → Space (Bytes s) (zeros s) xors
byte_space s = list_space byte_laws (λ (x : ℕ). x < 256) (omega arith) (λ x y h k. xor_lt 8 x y h k) s

-- s bytes that are not all zero
pub one : ℕ → List ℕ
one zero = []
one (suc s) = 1 ∷ zeros s

pub one_bytes : (s : ℕ) → Bytes s (one s)
unfolding one
one_bytes zero = (refl, tt)
one_bytes (suc s) = (ap suc (length-replicate s 0), (omega arith, (byte_space s).In-none.1))

pub one_apart : (s : ℕ) → 0 < s → one s ≢ zeros s
unfolding one
one_apart zero h e = absurd (omega arith)
one_apart (suc s) h e = let k : ◌≡◌ {A = ℕ} 1 0 = cc in omega arith
