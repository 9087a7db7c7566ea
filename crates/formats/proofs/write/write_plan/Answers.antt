use Rattle.std.proofs.Common.{◌<◌, length, sym, ap, ◌∙◌, arith}
use Rattle.std.proofs.lemmas.List.{length-take-le}
use Rattle.board.specs.Plans.{Parts}
use Rattle.board.specs.Viewed.{parts}
use Rattle.board.proofs.Legality.{plan_legal}
use Rattle.formats.specs.Decode.{decode}
use Rattle.formats.specs.Wire.{size, twos}
use Rattle.formats.proofs.Placing.{too_short, written}
use Rattle.formats.proofs.RoundTrip.{legal_read_back}
use Rattle.formats.proofs.write.write_plan.Goals as goal

pub returns-then-out-size : goal.returns-then-out-size
returns-then-out-size c =
    let p = parts c.args.plan.now in
    let o = c.args.out.now in
    let short : length o < size (length p.priorities) (length p.levels) (length p.wakes) =
    omega (arith, c.if-out-size.true, c.counts-counts.ensures.tasks, c.counts-counts.ensures.lines, c.counts-counts.ensures.events) in
    let h = too_short p o short in
    record { answer = h.answer; buffer = h.buffer; reads_back = tt }

pub copy_from_slice-requires : goal.copy_from_slice-requires
copy_from_slice-requires c = length-take-le 14 c.args.out.now (omega arith) ∙ sym (ap length c.head_of.ensures)

pub returns : goal.returns
returns c =
    let p = parts c.args.plan.now in
    let o = c.args.out.now in
    let n = c.counts-counts.result in
    let same = c.tables-tables.ensures in
    let h =
    written p o c.copy_from_slice.new.self c.copy_from_slice-2.new.self c.copy_from_slice-3.new.self c.put_sets.new.out n.tasks n.lines n.events
    c.counts-counts.ensures.tasks c.counts-counts.ensures.lines c.counts-counts.ensures.events
    (c.copy_from_slice.ensures.after ∙ c.head_of.ensures)
    (c.copy_from_slice-2.ensures.after ∙ ap (λ (q : Parts). q.priorities) same)
    (c.copy_from_slice-3.ensures.after ∙ ap (λ (q : Parts). q.levels) same)
    (c.put_sets.ensures ∙ ap (λ (q : Parts). twos q.wakes) same)
    c.if-out-size.false in
    record {
      answer = h.answer;
      buffer = h.buffer_left;
      reads_back = ap decode h.bytes ∙ legal_read_back p (plan_legal c.args.plan.now) _;
    }
