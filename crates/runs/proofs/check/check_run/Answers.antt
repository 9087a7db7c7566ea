use Rattle.std.proofs.Common.{◌≡◌, ◌+◌, ◌-◌, ◌*◌, ◌/◌, ◌≤◌, List, ℕ, length, Ok, Err, sym, ap, ◌∙◌, arith, rules}
use Rattle.std.proofs.lemmas.Result.{err_from_is_err_and}
use Rattle.formats.specs.Decode.{Bytes}
use Rattle.runs.specs.Runs.{next_call, next_place}
use Rattle.runs.proofs.Counts.{counted_end, counted_fault, counted_opening, counting_more}
use Rattle.runs.proofs.OneForm.{one_form, refused_run}
use Rattle.runs.proofs.Stepping.{next_fault, next_ok}
use Rattle.runs.proofs.check.check_run.Goals as goal

pub returns-in_err-reader : goal.returns-in_err-reader
returns-in_err-reader c =
    let q = err_from_is_err_and c.from_residual.result c.from_residual.ensures.1 in
    let f = c.in_err-reader.field-0.0 in
    let k = refused_run c.args.bytes.now c.from_residual.result f (q.1 ∙ ap Err q.2) (counted_opening c.args.bytes.now f c.in_err-reader.ensures) in
    record { answer = k.answer; one_form = k.one_form; first = k.found; no_form = k.none }

pub returns-in_err-next : goal.returns-in_err-next
returns-in_err-next c =
    let r = c.from_residual-in_err-next in
    let q = err_from_is_err_and r.result r.ensures.1 in
    let bs = c.args.bytes.now in
    let l = c.loop in
    let f = c.in_err-next.field-0.0 in
    let told : next_call bs (5 + 4 * l.counter) ≡ Err f =
    sym (c.in_err-next.ensures.answer ∙ ap (λ (b : List ℕ). next_call b l.reader.place) l.invariant.bytes ∙ ap (next_call bs) l.invariant.place) in
    let n = next_fault bs (5 + 4 * l.counter) f told in
    let k = refused_run bs r.result f (q.1 ∙ ap Err q.2) (counted_fault bs l.counter l.invariant.counting n.0 f c.in_ok-reader.ensures.0 n.1) in
    record { answer = k.answer; one_form = k.one_form; first = k.found; no_form = k.none }

pub loop-preserved : goal.loop-preserved
loop-preserved c =
    let bs = c.args.bytes.now in
    let l = c.loop in
    let n = c.in_ok-next.ensures in
    let told : next_call bs (5 + 4 * l.counter) ≡ Ok c.in_ok-next.field-0 =
    sym (n.answer ∙ ap (λ (b : List ℕ). next_call b l.reader.place) l.invariant.bytes ∙ ap (next_call bs) l.invariant.place) in
    let room : 5 + 4 * l.counter + 4 ≤ length bs = omega (arith, l.invariant.counting.within) in
    let k = next_ok bs (5 + 4 * l.counter) c.in_ok-next.field-0 room told in
    let moved : c.next.new.self.place ≡ 5 + 4 * l.counter + 4 = n.place ∙ ap (λ p. next_place p (Ok c.in_ok-next.field-0)) l.invariant.place ∙ k.1 in
    record { bytes = n.bytes ∙ l.invariant.bytes; place = omega arith; counting = counting_more bs l.counter l.invariant.counting room k.0 }

pub returns : goal.returns
returns c =
    let bs = c.args.bytes.now in
    let l = c.loop in
    let bytes : Bytes bs = search rules in
    let all : l.counter ≡ (length bs - 5) / 4 = omega arith in
    let end = counted_end bs l.counter l.invariant.counting c.in_ok-reader.ensures.0 (omega arith) in
    record { answer = ap Ok (sym all) ∙ end; one_form = one_form bs bytes; first = tt; no_form = tt }
