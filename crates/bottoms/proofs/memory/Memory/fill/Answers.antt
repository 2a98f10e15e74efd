use Rattle.std.proofs.Common.{◌*◌, take, ap, ◌∙◌, arith}
use Rattle.bottoms.specs.Parts.{put}
use Rattle.bottoms.specs.Memories.{cell_size}
use Rattle.bottoms.proofs.MemoryWrites.{filled}
use Rattle.bottoms.proofs.memory.Memory.fill.Goals as goal

pub returns-clause-buffer : goal.returns-clause-buffer
returns-clause-buffer g c =
    let size = cell_size c.args.self.now.wished in
    c.put.ensures.bytes
    ∙ ap (λ z. put (g.B.Buffer.bytes c.args.self.now.buf) (c.args.p * z) (take z c.padded-cell.result)) c.size-size.ensures
    ∙ filled _ _ _ size c.args.p (omega arith) (omega arith) c.requires.there c.requires.short (ap (take size) c.padded-cell.ensures)
