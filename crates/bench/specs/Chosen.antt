-- What a line rule that a script names means: what the named one means. Assumes nothing.
use Rattle.std.specs.Prelude.{ℕ, Bool, Option}
use Rattle.coding.specs.Rows.{Row}
use Rattle.rules.specs.Draws.{published_serves, published_row}
use Rattle.rules.specs.Repeats.{repeat_serves, repeat_row}
use Rattle.rules.specs.RuleLaws.{RuleLaws, published_laws, repeat_laws}
use Rattle.bench.specs.declared.rule.RuleName.{RuleName}
use Rattle.bench.specs.declared.rule.RuleName.TheVariants.{Published, Repeat}

abbrev pub chosen_serves : RuleName → ℕ → ℕ → Bool
chosen_serves Published = published_serves
chosen_serves Repeat = repeat_serves

abbrev pub chosen_row : RuleName → ℕ → ℕ → ℕ → Option Row
chosen_row Published = published_row
chosen_row Repeat = repeat_row

-- the laws, by those of the named rule
pub chosen_laws : (r : RuleName) → RuleLaws (chosen_serves r) (chosen_row r)
chosen_laws Published = published_laws
chosen_laws Repeat = repeat_laws
