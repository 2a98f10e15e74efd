use Rattle.std.proofs.Common.{◌≡◌, ℕ, ◌+◌, ◌-◌, ◌*◌, ◌<◌, cond, ltb, length, take, drop, replicate, Ok, Err, Result, refl, ap, ◌∙◌, subst, arith}
use Rattle.cells.specs.declared.fault.StoreFault.{StoreFault}
use Rattle.cells.specs.declared.fault.StoreFault.TheVariants.{Worn}
use Rattle.bottoms.specs.Parts.{put, part_room}
use Rattle.bottoms.specs.Pages.{erases_left, page_end, page_at}
use Rattle.bottoms.proofs.PageWrites.{page_parts, page_put, page_wrote}
use Rattle.bottoms.proofs.flash.Flash.renew.Goals as goal

pub returns : goal.returns
returns g c =
    let buf = g.B.Buffer.bytes c.args.self.now.buf in
    let p = c.args.p in
    let is : c.erases_left.result ≡ erases_left (page_at buf p) = c.erases_left.ensures ∙ ap erases_left (c.page.ensures ∙ ap (λ b. page_at b p) c.bytes.ensures) in
    let spends = subst (λ (e : ℕ). ◌≡◌ {A = Result ℕ StoreFault} (Ok c.in_ok-left.left) (cond (ltb 0 e) (Ok (e - 1)) (Err (Worn p)))) is c.in_ok-left.ensures in
    let first = c.put.ensures.bytes in
    let second = c.put-2.ensures.bytes ∙ ap (λ b. put b (p * 256 + length c.args.bytes.now) (take (239 - length c.args.bytes.now) (drop (length c.args.bytes.now) (replicate 239 0)))) first in
    let third = c.put-3.ensures.bytes ∙ rw (second, c.page_end.ensures) refl in
    let room = part_room (length buf) 256 p (omega arith) c.requires.there in
    let same = third ∙ page_parts buf c.args.bytes.now (page_end c.in_ok-left.left) (p * 256) room c.requires.short refl ∙ page_put buf c.args.bytes.now p c.in_ok-left.left c.requires.there c.requires.short spends in
    record {
      store = page_wrote buf c.args.bytes.now p c.in_ok-left.left c.requires.there c.requires.short spends _ (subst (λ e. e < 4294967296) is c.erases_left.type_inv) same;
      buffer = same;
      holder = c.put-3.ensures.holder ∙ (c.put-2.ensures.holder ∙ c.put.ensures.holder);
    }
