use Rattle.std.proofs.Common.{[], sym, ap, ◌∙◌, rules}
use Rattle.world_history.specs.Acts.{SpeakLine}
use Rattle.world_scripts.specs.Lines as l
use Rattle.world_run.proofs.LineLemmas.{fits, unfit}
use Rattle.world_history.specs.Servers.{is_next}
use Rattle.world_history.proofs.TellLemmas.{speak_told}
use Rattle.world_run.proofs.RunLemmas.{done_as, line_judged}
use Rattle.world_run.proofs.NameLemmas.{speak_done, or_known, or_neither}
use Rattle.world_run.proofs.run.Run.tell_speak.Goals as goal

pub returns-then-self-clause-carried : goal.returns-then-self-clause-carried
returns-then-self-clause-carried c = λ left before acts is h. unfit acts (SpeakLine c.args.tuple.now) (speak_told before left acts c.args.tuple.now c.args.self.now.tables h.tables is ∙ or_known _ _ (sym h.used ∙ c.if-self.true))

pub returns-then-refuses_speak-clause-carried : goal.returns-then-refuses_speak-clause-carried
returns-then-refuses_speak-clause-carried c = λ left before acts is h.
    unfit acts (SpeakLine c.args.tuple.now) (speak_told before left acts c.args.tuple.now c.args.self.now.tables h.tables is
    ∙ or_neither _ _ _ (sym h.used ∙ c.if-self.false) (ap (is_next c.args.self.now.tables.bad_speak) (sym h.speaks) ∙ (sym c.refuses_speak.ensures ∙ c.if-refuses_speak.true)))

pub returns-clause-carried : goal.returns-clause-carried
returns-clause-carried c = λ left before acts is h.
    let fit = fits acts (SpeakLine c.args.tuple.now) (speak_told before left acts c.args.tuple.now c.args.self.now.tables h.tables is
    ∙ or_neither _ _ _ (sym h.used ∙ c.if-self.false) (ap (is_next c.args.self.now.tables.bad_speak) (sym h.speaks) ∙ (sym c.refuses_speak.ensures ∙ c.if-refuses_speak.false))) in
    rw c.new.ensures.items (done_as left acts _ _ [] _ is (speak_done before left acts c.args.tuple.now c.args.self.now c.in-Some.more
    (line_judged acts _ (l.AsSpeak c.args.tuple.now) (SpeakLine c.args.tuple.now) is fit) h (search rules)))
