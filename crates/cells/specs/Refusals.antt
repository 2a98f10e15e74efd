-- A refusal: named for another cell, and as text. Assumes nothing.
use Rattle.std.specs.Prelude.{ℕ, List, ◌++◌, codes, decimal}
use Rattle.cells.specs.declared.fault.StoreFault.{StoreFault}
use Rattle.cells.specs.declared.fault.StoreFault.TheVariants.{Place, Length, Worn}

-- the same kind of refusal, of cell p
abbrev pub refusal_at : ℕ → StoreFault → StoreFault
refusal_at p (Place _) = Place p
refusal_at p (Length _) = Length p
refusal_at p (Worn _) = Worn p

-- what is printed of a refusal
abbrev pub fault_text : StoreFault → List ℕ
fault_text (Place p) = codes "place cell=" ++ decimal p
fault_text (Length p) = codes "length cell=" ++ decimal p
fault_text (Worn p) = codes "worn cell=" ++ decimal p
