-- Adding two lists place by place. Assumes nothing.
use Rattle.std.specs.Prelude.{◌≡◌, Bool, true, false, not, List, [], ◌∷◌}

-- the four laws of adding elements
pub record Laws {E : Type 0} (zero : E) (add : E → E → E) : Type 0 where
  pub assoc : (x y z : E) → add (add x y) z ≡ add x (add y z)
  pub comm : (x y : E) → add x y ≡ add y x
  pub neutral : (x : E) → add x zero ≡ x
  pub cancels : (x : E) → add x x ≡ zero

-- the exclusive or of two marks
abbrev pub differ : Bool → Bool → Bool
differ true b = not b
differ false b = b

-- the sum of two lists, as long as the shorter
abbrev pub sum : {E : Type 0} → (E → E → E) → List E → List E → List E
sum add [] ys = []
sum add (x ∷ xs) [] = []
sum add (x ∷ xs) (y ∷ ys) = add x y ∷ sum add xs ys

-- the first list with the second added into it: each place of the first, with the place of the second added where there is one
abbrev pub added : {E : Type 0} → (E → E → E) → List E → List E → List E
added add [] ys = []
added add (x ∷ xs) [] = x ∷ xs
added add (x ∷ xs) (y ∷ ys) = add x y ∷ added add xs ys
