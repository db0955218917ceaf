use Rattle.std.proofs.Common.{length, take, Ok, Err, ap, sym, subst, ◌∙◌}
use Rattle.steps.specs.declared.call_error.CallError.TheVariants.{Refused, Broken}
use Rattle.sources.specs.Frame.{framed}
use Rattle.text.proofs.WriterLemmas.{same_place}
use Rattle.row_laws.specs.Calls.{at_front}
use Rattle.jobs.specs.Job.{JobListed, job_of, answer_text, fault_text, refusal_text}
use Rattle.jobs.proofs.JobLemmas.{cut_at, listed_text, faulty_text, refused_text}
use Rattle.jobs.proofs.AnswerLaws.{printed}
use Rattle.jobs.proofs.job.answer.Goals as goal

pub returns-in-Ok-clause-count : goal.returns-in-Ok-clause-count
returns-in-Ok-clause-count c =
    let input = c.args.input.now in
    let h = subst (λ bs. JobListed (job_of (framed bs)) (Ok c.in-Ok.count) c.args.text.now c.list_first.new.text) (cut_at c.min.result 4096 input c.min.ensures) c.in-Ok.ensures in
    (listed_text (job_of (framed (take 4096 input))) c.in-Ok.count c.args.text.now c.list_first.new.text h).0

pub returns-in-Ok-clause-writes : goal.returns-in-Ok-clause-writes
returns-in-Ok-clause-writes c =
    let input = c.args.input.now in
    let h = subst (λ bs. JobListed (job_of (framed bs)) (Ok c.in-Ok.count) c.args.text.now c.list_first.new.text) (cut_at c.min.result 4096 input c.min.ensures) c.in-Ok.ensures in
    (listed_text (job_of (framed (take 4096 input))) c.in-Ok.count c.args.text.now c.list_first.new.text h).1

pub returns-in-Ok-clause-law : goal.returns-in-Ok-clause-law
returns-in-Ok-clause-law c =
    printed c.args.input.now c.in-Ok.count c.args.text.now c.list_first.new.text (returns-in-Ok-clause-count c) (returns-in-Ok-clause-writes c)

pub returns-in-Err-Broken-clause-count : goal.returns-in-Err-Broken-clause-count
returns-in-Err-Broken-clause-count c =
    let input = c.args.input.now in
    let f = c.in-Err-Broken.fault in
    let first = rw c.in-Err-Broken.field-0-is at c.in-Err-Broken.ensures in
    let h = subst (λ bs. JobListed (job_of (framed bs)) (Err (Broken f)) c.args.text.now c.list_first.new.text) (cut_at c.min.result 4096 input c.min.ensures) first in
    let told = faulty_text (job_of (framed (take 4096 input))) f c.args.text.now c.list_first.new.text h in
    same_place c.unwrap.result (length (fault_text c.from.result)) (sym c.unwrap.ensures ∙ c.write_labelled.ensures.end)
    ∙ ap (λ n. length (fault_text n)) c.from.ensures ∙ ap length told.0

pub returns-in-Err-Broken-clause-writes : goal.returns-in-Err-Broken-clause-writes
returns-in-Err-Broken-clause-writes c =
    let input = c.args.input.now in
    let f = c.in-Err-Broken.fault in
    let first = rw c.in-Err-Broken.field-0-is at c.in-Err-Broken.ensures in
    let h = subst (λ bs. JobListed (job_of (framed bs)) (Err (Broken f)) c.args.text.now c.list_first.new.text) (cut_at c.min.result 4096 input c.min.ensures) first in
    let told = faulty_text (job_of (framed (take 4096 input))) f c.args.text.now c.list_first.new.text h in
    c.write_labelled.ensures.writes ∙ ap (λ n. at_front (fault_text n) c.list_first.new.text) c.from.ensures
    ∙ ap (λ t. at_front t c.list_first.new.text) told.0 ∙ ap (at_front (answer_text input)) told.1

pub returns-in-Err-Broken-clause-law : goal.returns-in-Err-Broken-clause-law
returns-in-Err-Broken-clause-law c =
    printed c.args.input.now c.unwrap.result c.args.text.now c.write_labelled.new.text (returns-in-Err-Broken-clause-count c) (returns-in-Err-Broken-clause-writes c)

pub returns-in-Err-Refused-clause-count : goal.returns-in-Err-Refused-clause-count
returns-in-Err-Refused-clause-count c =
    let input = c.args.input.now in
    let refusal = c.in-Err-Refused.refusal in
    let first = rw c.in-Err-Refused.field-0-is at c.in-Err-Refused.ensures in
    let h = subst (λ bs. JobListed (job_of (framed bs)) (Err (Refused refusal)) c.args.text.now c.list_first.new.text) (cut_at c.min.result 4096 input c.min.ensures) first in
    let told = refused_text (job_of (framed (take 4096 input))) refusal c.args.text.now c.list_first.new.text h in
    same_place c.unwrap-in-Err-Refused.result (length (refusal_text c.from-in-Err-Refused.result))
    (sym c.unwrap-in-Err-Refused.ensures ∙ c.write_labelled-in-Err-Refused.ensures.end)
    ∙ ap (λ n. length (refusal_text n)) (c.from-in-Err-Refused.ensures ∙ c.number.ensures) ∙ ap length told.0

pub returns-in-Err-Refused-clause-writes : goal.returns-in-Err-Refused-clause-writes
returns-in-Err-Refused-clause-writes c =
    let input = c.args.input.now in
    let refusal = c.in-Err-Refused.refusal in
    let first = rw c.in-Err-Refused.field-0-is at c.in-Err-Refused.ensures in
    let h = subst (λ bs. JobListed (job_of (framed bs)) (Err (Refused refusal)) c.args.text.now c.list_first.new.text) (cut_at c.min.result 4096 input c.min.ensures) first in
    let told = refused_text (job_of (framed (take 4096 input))) refusal c.args.text.now c.list_first.new.text h in
    c.write_labelled-in-Err-Refused.ensures.writes ∙ ap (λ n. at_front (refusal_text n) c.list_first.new.text) (c.from-in-Err-Refused.ensures ∙ c.number.ensures)
    ∙ ap (λ t. at_front t c.list_first.new.text) told.0 ∙ ap (at_front (answer_text input)) told.1

pub returns-in-Err-Refused-clause-law : goal.returns-in-Err-Refused-clause-law
returns-in-Err-Refused-clause-law c =
    printed c.args.input.now c.unwrap-in-Err-Refused.result c.args.text.now c.write_labelled-in-Err-Refused.new.text (returns-in-Err-Refused-clause-count c) (returns-in-Err-Refused-clause-writes c)
