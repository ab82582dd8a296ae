use Rattle.std.proofs.Common.{◌≡◌, ◌∙◌, Bool, List, ap, false, map, sym, take, take_all, true}
use Rattle.std.proofs.lemmas.List.Folds.{list_all_at}
use Rattle.std.specs.List.{list_all}
use Rattle.symbolic_runs.specs.Answers.{atoms_of}
use Rattle.trace_labels.specs.Said.{said}
use Rattle.wire_histories.specs.declared.step.Step.{Step}
use Rattle.trace_runs.specs.Holders.{reads_start}
use Rattle.trace_runs.proofs.HolderLaws.{decides_holders}
use Rattle.trace_runs.proofs.holders.reads_holders.Goals as goal

pub returns-then-not-branch : goal.returns-then-not-branch
returns-then-not-branch c = λ z l noted told.
    let lines = map said c.args.lines.now in
    let test : Step → Bool = reads_start (atoms_of c.args.reading.now) lines c.args.setting.now in
    let here : test c.step-item.result ≡ false = sym c.in_ok-reads_start.ensures ∙ c.if-not-branch.true in
    let fails = list_all_at test c.args.steps.now c.loop-step.step-index c.step-item.result c.loop-step-test.true (ap test (sym c.step-item.is) ∙ here) in
    decides_holders (atoms_of c.args.reading.now) lines c.args.setting.now c.args.steps.now false z l (sym fails) noted told

pub returns : goal.returns
returns c = λ z l noted told.
    let lines = map said c.args.lines.now in
    let test : Step → Bool = reads_start (atoms_of c.args.reading.now) lines c.args.setting.now in
    let all : take c.loop-step.step-index c.args.steps.now ≡ c.args.steps.now = take_all c.loop-step.step-index c.args.steps.now c.loop-step-test.false in
    decides_holders (atoms_of c.args.reading.now) lines c.args.setting.now c.args.steps.now true z l
    (sym (sym (ap (λ (xs : List Step). list_all test xs) all) ∙ c.loop-step.invariant)) noted told
