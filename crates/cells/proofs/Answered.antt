-- What a store answers where place and length are right, and what an answer tells. Assumes nothing.
use Rattle.std.proofs.Common.{◌≡◌, ℕ, ◌<◌, ◌≤◌, Bool, true, false, cond, ltb, leb, List, length, is_ok, Some, Ok, Err, refl, ap, ◌∙◌, arith}
use Rattle.std.proofs.lemmas.Bool.{both_ways, cond-true, lt-ltb, le-leb}
use Rattle.std.proofs.lemmas.Bool.Decides.{nat_tests}
use Rattle.cells.specs.declared.fault.StoreFault.TheVariants.{Worn}
use Rattle.cells.specs.Meaning.{Meaning}
use Rattle.cells.specs.Calls.{Answer, accepts, admitted, write_answer, Written, WroteBy}

pub admitted_ok : (count size p n : ℕ) → Ok tt ≡ admitted count size p n → (p < count) × (n ≤ size)
admitted_ok count size p n e = grind (arith, nat_tests)

pub answer_at : (m : Meaning) (p : ℕ) (bytes : List ℕ) → p < m.count → length bytes ≤ m.size → write_answer m p bytes ≡ cond (accepts m p bytes) (Ok tt) (Err (Worn p))
answer_at m p bytes place short =
    cond-true (ltb p m.count) _ _ (lt-ltb p m.count place) ∙ cond-true (leb (length bytes) m.size) _ _ (le-leb (length bytes) m.size short)

ok_of : (t : Bool) (p : ℕ) → is_ok (cond {A = Answer} t (Ok tt) (Err (Worn p))) ≡ t
ok_of true p = refl
ok_of false p = refl

-- an answered write of the bytes to cell p
module _ (m n : Meaning) (p : ℕ) (bytes : List ℕ) (r : Answer) (w : WroteBy m p bytes r n) where
  -- with place and length right, it is accepted where the meaning says so, and only there
  pub accepted_by : p < m.count → length bytes ≤ m.size → is_ok r ≡ accepts m p bytes
  accepted_by place short = ap is_ok (w.answer ∙ answer_at m p bytes place short) ∙ ok_of (accepts m p bytes) p

by_answer : (m n : Meaning) (p : ℕ) (bytes : List ℕ) (r : Answer) → WroteBy m p bytes r n → (is_ok r ≡ true → Written m p bytes n) × (is_ok r ≡ false → n ≡ m)
by_answer m n p bytes (Ok x) w = (λ _. w.becomes, λ e. absurd (both_ways true e refl))
by_answer m n p bytes (Err x) w = (λ e. absurd (both_ways false refl e), λ _. w.becomes)

pub written_if : (m n : Meaning) (p : ℕ) (bytes : List ℕ) (r : Answer) → WroteBy m p bytes r n → is_ok r ≡ true → Written m p bytes n
written_if m n p bytes r w = (by_answer m n p bytes r w).0

pub same_unless : (m n : Meaning) (p : ℕ) (bytes : List ℕ) (r : Answer) → WroteBy m p bytes r n → is_ok r ≡ false → n ≡ m
same_unless m n p bytes r w = (by_answer m n p bytes r w).1

-- what is told beforehand is told of each cell
pub told_each : (f t : ℕ → Bool) → Some f ≡ Some t → (q : ℕ) → f q ≡ t q
told_each f t told q =
    let same : f ≡ t = cc in
    ap (λ (g : ℕ → Bool). g q) same
