-- Back substitution: some block always fits the lines. Assumes nothing.
use Rattle.std.proofs.Common.{◌≡◌, suc, List, [], ◌∷◌, length, refl, ap, ◌∙◌}
use Rattle.std.specs.List.{AllByRecursion}
use Rattle.coding.specs.Lines.{Slot, Slot.empty, Slot.filled, Fits, Sound, settle}
use Rattle.coding.proofs.Spaces.{Space, cancel, In-marked}
use Rattle.coding.proofs.Placing.{Whole}

module _ {V : Type 0} {In : V → Type 0} {none : V} {add : V → V → V} (sp : Space In none add) where
  pub length-settle : (ls : List (Slot V)) → length (settle none add ls) ≡ length ls
  length-settle [] = refl
  length-settle (empty ∷ ls) = ap suc (length-settle ls)
  length-settle (filled t q ∷ ls) = ap suc (length-settle ls)

  pub In-settle : (ls : List (Slot V)) → Sound In ls → AllByRecursion In (settle none add ls)
  In-settle [] s = tt
  In-settle (empty ∷ ls) s = (sp.In-none, In-settle ls s)
  In-settle (filled t q ∷ ls) s = (sp.In-add q _ s.1 (In-marked sp t _ (In-settle ls s.2)), In-settle ls s.2)

  pub solved : (q x : V) → In q → In x → add (add q x) x ≡ q
  solved q x hq hx = sp.comm (add q x) x ∙ ap (add x) (sp.comm q x) ∙ cancel sp x q hx hq

  pub Fits-settle : (ls : List (Slot V)) → Sound In ls → Fits none add ls (settle none add ls)
  Fits-settle [] s = tt
  Fits-settle (empty ∷ ls) s = Fits-settle ls s
  Fits-settle (filled t q ∷ ls) s =
      (solved q _ s.1 (In-marked sp t _ (In-settle ls s.2)), Fits-settle ls s.2)

  pub Whole-settle : (ls : List (Slot V)) → Sound In ls → Whole sp ls (settle none add ls)
  Whole-settle ls s = (length-settle ls, In-settle ls s)
