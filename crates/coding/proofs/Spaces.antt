-- Fragments of any kind that can be added: a space, and what a row marks in a list over it. Assumes nothing.
use Rattle.std.proofs.Common.{◌≡◌, true, false, List, [], ◌∷◌, length, sym, ap, ◌∙◌, suc-ne-zero}
use native.Mathlib.Nat.{suc_inj}
use Rattle.std.specs.List.{AllByRecursion}
use Rattle.adding.specs.Sums.{sum, differ}
use Rattle.coding.specs.Rows.{Row}
use Rattle.coding.specs.Blocks.{marked}

pub record Space {V : Type 0} (In : V → Type 0) (none : V) (add : V → V → V) : Type 0 where
  pub In-none : In none
  pub In-add : (x y : V) → In x → In y → In (add x y)
  pub assoc : (x y z : V) → add (add x y) z ≡ add x (add y z)
  pub comm : (x y : V) → add x y ≡ add y x
  pub unit : (x : V) → In x → add none x ≡ x
  pub self : (x : V) → In x → add x x ≡ none

module _ {V : Type 0} {In : V → Type 0} {none : V} {add : V → V → V} (sp : Space In none add) where
  pub swap : (a b c d : V) → add (add a b) (add c d) ≡ add (add a c) (add b d)
  swap a b c d =
      sp.assoc a b (add c d)
      ∙ ap (add a) (sym (sp.assoc b c d) ∙ ap (λ (x : V). add x d) (sp.comm b c) ∙ sp.assoc c b d)
      ∙ sym (sp.assoc a c (add b d))

  pub cancel : (f x : V) → In f → In x → add f (add f x) ≡ x
  cancel f x hf hx = sym (sp.assoc f f x) ∙ ap (λ (y : V). add y x) (sp.self f hf) ∙ sp.unit x hx

  pub left_swap : (a b c : V) → add a (add b c) ≡ add b (add a c)
  left_swap a b c = sym (sp.assoc a b c) ∙ ap (λ (y : V). add y c) (sp.comm a b) ∙ sp.assoc b a c

  pub In-marked : (r : Row) (b : List V) → AllByRecursion In b → In (marked none add r b)
  In-marked [] b h = sp.In-none
  In-marked (m ∷ r) [] h = sp.In-none
  In-marked (false ∷ r) (f ∷ b) h = In-marked r b h.1
  In-marked (true ∷ r) (f ∷ b) h = sp.In-add f (marked none add r b) h.0 (In-marked r b h.1)

  pub linear : (c t : Row) (b : List V) → length c ≡ length t → AllByRecursion In b
      → marked none add (sum differ c t) b ≡ add (marked none add c b) (marked none add t b)
  linear [] [] b e h = sym (sp.unit none sp.In-none)
  linear [] (y ∷ t) b e h = absurd (suc-ne-zero (length t) (sym e))
  linear (x ∷ c) [] b e h = absurd (suc-ne-zero (length c) e)
  linear (x ∷ c) (y ∷ t) [] e h = sym (sp.unit none sp.In-none)
  linear (false ∷ c) (false ∷ t) (f ∷ b) e h = linear c t b (suc_inj e) h.1
  linear (false ∷ c) (true ∷ t) (f ∷ b) e h =
      ap (add f) (linear c t b (suc_inj e) h.1) ∙ left_swap f (marked none add c b) (marked none add t b)
  linear (true ∷ c) (false ∷ t) (f ∷ b) e h =
      ap (add f) (linear c t b (suc_inj e) h.1) ∙ sym (sp.assoc f (marked none add c b) (marked none add t b))
  linear (true ∷ c) (true ∷ t) (f ∷ b) e h =
      linear c t b (suc_inj e) h.1
      ∙ sym (swap f (marked none add c b) f (marked none add t b)
      ∙ ap (λ (y : V). add y (add (marked none add c b) (marked none add t b))) (sp.self f h.0)
      ∙ sp.unit _ (sp.In-add _ _ (In-marked c b h.1) (In-marked t b h.1)))

  pub linear_block : (r : Row) (b b' : List V) → length b ≡ length b'
      → marked none add r (sum add b b') ≡ add (marked none add r b) (marked none add r b')
  linear_block [] b b' e = sym (sp.unit none sp.In-none)
  linear_block (m ∷ r) [] [] e = sym (sp.unit none sp.In-none)
  linear_block (m ∷ r) [] (g ∷ b') e = absurd (suc-ne-zero (length b') (sym e))
  linear_block (m ∷ r) (f ∷ b) [] e = absurd (suc-ne-zero (length b) e)
  linear_block (false ∷ r) (f ∷ b) (g ∷ b') e = linear_block r b b' (suc_inj e)
  linear_block (true ∷ r) (f ∷ b) (g ∷ b') e =
      ap (add (add f g)) (linear_block r b b' (suc_inj e)) ∙ swap f g (marked none add r b) (marked none add r b')
