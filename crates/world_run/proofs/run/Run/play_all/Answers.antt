use Rattle.std.proofs.Common.{◌≡◌, ◌∷◌, subst, rules}
use Rattle.world_scripts.specs.Given.{said_number}
use Rattle.world_run.proofs.PlayingLemmas.{Going, going_ends, going_on}
use Rattle.world_run.proofs.NotedRuns.{NotesGoing, noted_all, noted_end, noted_on}
use Rattle.world_run.proofs.run.Run.play_all.Goals as goal

pub returns-in-Some-play-clause-played : goal.returns-in-Some-play-clause-played
returns-in-Some-play-clause-played g c = λ first h.
    let more : c.loop-line.lines ≡ said_number c.in-Some.line ∷ c.next.new.self = search rules in
    going_ends c.args.lines (said_number c.in-Some.line) c.next.new.self first c.in-Some-play.end c.args.self.now c.loop-line.self c.play.new.self (g.W.Sink.holds c.args.sink.now) (g.W.Sink.holds c.loop-line.sink) (g.W.Sink.holds c.play.new.sink)
    (subst (λ ls. Going c.args.lines ls first c.args.self.now c.loop-line.self (g.W.Sink.holds c.args.sink.now) (g.W.Sink.holds c.loop-line.sink)) more (c.loop-line.invariant.going first h))
    (λ acts s. c.in-Some-play.ensures.played acts s)

pub loop-line-preserved : goal.loop-line-preserved
loop-line-preserved g c =
    let more : c.loop-line.lines ≡ said_number c.in-Some.line ∷ c.next.new.self = search rules in
    record {
      going = λ first h. going_on c.args.lines (said_number c.in-Some.line) c.next.new.self first c.args.self.now c.loop-line.self c.play.new.self (g.W.Sink.holds c.args.sink.now) (g.W.Sink.holds c.loop-line.sink) (g.W.Sink.holds c.play.new.sink)
          (subst (λ ls. Going c.args.lines ls first c.args.self.now c.loop-line.self (g.W.Sink.holds c.args.sink.now) (g.W.Sink.holds c.loop-line.sink)) more (c.loop-line.invariant.going first h))
          (λ acts s. c.in_default-play.ensures.played acts s);
      noted = λ first h n. noted_on c.args.lines (said_number c.in-Some.line) c.next.new.self first c.loop-line.self c.play.new.self c.loop-line.setting c.play.new.setting c.loop-line.self.recorded (g.W.Sink.holds c.loop-line.sink) (g.W.Sink.holds c.play.new.sink)
          (subst (λ ls. NotesGoing c.args.lines ls first c.loop-line.self c.loop-line.setting) more (c.loop-line.invariant.noted first h n))
          (λ acts s. c.in_default-play.ensures.played acts s) c.in_default-play.ensures.noted;
      steady = search rules;
    }

pub returns-in-Some-play-clause-noted : goal.returns-in-Some-play-clause-noted
returns-in-Some-play-clause-noted g c = noted_end c.args.lines (said_number c.in-Some.line) c.next.new.self c.args.self.now c.loop-line.self c.in-Some-play.end c.args.setting.now c.loop-line.setting c.play.new.setting c.in-Some-play.ensures.noted

pub returns-clause-noted : goal.returns-clause-noted
returns-clause-noted g c = λ first h n. noted_all c.args.lines c.loop-line.lines first c.loop-line.self c.loop-line.setting (search rules) (c.loop-line.invariant.noted first h n)
