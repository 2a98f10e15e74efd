-- The theorems on coding and elimination. Assumes nothing.
use Rattle.std.proofs.Common.{sym, ◌∙◌}
use Rattle.coding.specs.Theorems.{LinearInRow, LinearInBlock, ReducingKeeps, AlwaysABlock, TwoWhereEmpty, LinesStandFor, MissingLeast, SettledBlock, ContradictionExact, Theorems}
use Rattle.coding.proofs.Spaces.{linear, linear_block}
use Rattle.coding.proofs.ByteSpaces.{byte_space, one, one_bytes, one_apart}
use Rattle.coding.proofs.Placing.{same_left}
use Rattle.coding.proofs.Settling.{Whole-settle, Fits-settle}
use Rattle.coding.proofs.Counting.{two}
use Rattle.coding.proofs.Standing.{kept, needs, the_block, refused, refused_only}

pub linear_in_row : LinearInRow
linear_in_row m s r r' b e e' h = linear (byte_space s) r r' b (e ∙ sym e') h.1

pub linear_in_block : LinearInBlock
linear_in_block m s r b b' h h' = linear_block (byte_space s) r b b' (h.0 ∙ sym h'.0)

pub reducing_keeps : ReducingKeeps
reducing_keeps m s ls a b sys p h f =
    same_left (byte_space s) ls a.row a.bytes sys.1 (p.0 ∙ sym sys.0) p.1 b (h.0 ∙ sym sys.0, h.1) f

pub always_a_block : AlwaysABlock
always_a_block m s ls sys =
    let w = Whole-settle (byte_space s) ls sys.1 in
    (_, (w.0 ∙ sys.0, w.1), Fits-settle (byte_space s) ls sys.1)

pub two_where_empty : TwoWhereEmpty
two_where_empty m s ls h sys e =
    let t = two (byte_space s) (one s) (one_bytes s) (one_apart s h) ls sys.1 e in
    (t.first, t.second, (t.Whole-first.0 ∙ sys.0, t.Whole-first.1), (t.Whole-second.0 ∙ sys.0, t.Whole-second.1), t.Fits-first, t.Fits-second, t.apart)

pub lines_stand_for : LinesStandFor
lines_stand_for m s accepted ls r = kept r

pub missing_least : MissingLeast
missing_least m s h accepted ls r = needs (kept r) h

pub settled_block : SettledBlock
settled_block m s accepted ls r e = the_block (kept r) e

pub contradiction_exact : ContradictionExact
contradiction_exact m s accepted ls r a p =
    (λ x. refused (kept r) a p x.0 x.1 x.2, λ n. refused_only (kept r) a p n)

pub theorems : Theorems
theorems =
    record {
      rows = linear_in_row;
      blocks = linear_in_block;
      reducing = reducing_keeps;
      some = always_a_block;
      two = two_where_empty;
      lines = lines_stand_for;
      missing = missing_least;
      settled = settled_block;
      contradicts = contradiction_exact;
    }
