-- What a write makes of memory. Assumes nothing.
use Rattle.std.proofs.Common.{◌≡◌, ℕ, ◌*◌, ◌<◌, ◌≤◌, true, List, length, take, Ok, sym, refl, ap, ◌∙◌, subst, rules}
use Rattle.std.proofs.lemmas.List.{places}
use Rattle.cells.specs.Calls.{Written, WroteBy, admitted, padded}
use Rattle.cells.proofs.Answered.{admitted_ok, told_each}
use Rattle.bottoms.specs.Parts.{whole_parts, part_room, put}
use Rattle.bottoms.specs.Memories.{memory, memory_buffer}
use Rattle.bottoms.proofs.Partly.{put_part, take_padded, length_with, part_here, part_there}

memory_written : (z p : ℕ) (buf bytes : List ℕ) → 1 ≤ z → Ok tt ≡ admitted (whole_parts (length buf) z) z p (length bytes) → Written (memory z buf) p bytes (memory z (memory_buffer z buf p bytes))
unfolding memory_buffer
memory_written z p buf bytes some e =
    let h = admitted_ok (whole_parts (length buf) z) z p (length bytes) e in
    let room = part_room (length buf) z p some h.0 in
    let whole : length (padded z bytes) ≡ z = search (rules, places, h.1) in
    record {
      count = ap (λ n. whole_parts n z) (length_with buf (padded z bytes) z p room whole);
      size = refl;
      here = part_here buf (padded z bytes) z p room whole;
      others = λ q _ ne. part_there buf (padded z bytes) z p room whole q ne;
      wear = λ t told q _. told_each (λ _. true) t told q;
    }

-- a cell that is written where it lies
pub filled : (buf bytes part : List ℕ) (z p : ℕ) → 1 ≤ z → z ≤ 239 → p < whole_parts (length buf) z → length bytes ≤ z → part ≡ take z (padded 239 bytes) → put buf (p * z) part ≡ memory_buffer z buf p bytes
unfolding memory_buffer
filled buf bytes part z p some few here short is =
    let room = part_room (length buf) z p some here in
    let same : part ≡ padded z bytes = is ∙ take_padded z 239 bytes short few in
    let whole : length (padded z bytes) ≡ z = search (rules, places, short) in
    ap (put buf (p * z)) same ∙ put_part buf (padded z bytes) z p room whole

-- a write that was admitted
pub memory_wrote : (z p : ℕ) (buf bytes after : List ℕ) → 1 ≤ z → Ok tt ≡ admitted (whole_parts (length buf) z) z p (length bytes) → after ≡ memory_buffer z buf p bytes → WroteBy (memory z buf) p bytes (Ok tt) (memory z after)
memory_wrote z p buf bytes after some answer is = record {
  answer = answer;
  becomes = subst (λ b. Written (memory z buf) p bytes (memory z b)) (sym is) (memory_written z p buf bytes some answer);
}
