use Rattle.std.proofs.Common.{[], ◌∙◌, arith, refl}
use Rattle.std.proofs.lemmas.List.{drop_more}
use Rattle.agent_hub.specs.Requesting.{frames_in}
use Rattle.agent_hub.proofs.ExchangeLemmas.{served_all, served_before, served_some, serving_begun, serving_more}
use Rattle.agent_hub.proofs.exchange.serve_frames.Goals as goal

pub returns-then-is_err : goal.returns-then-is_err
returns-then-is_err c = λ H stands. served_some H c.args.conn (frames_in c.args.frames.now) c.args.words.now c.args.out.now _ _ _ _ _ _
    (serving_begun H c.args.conn (frames_in c.args.frames.now) c.args.words.now c.args.out.now c.args.frames.now _ _ refl (c.reserve.ensures.items ∙ c.new-taken.ensures.items) stands)

pub returns-in_default : goal.returns-in_default
returns-in_default c = λ H stands. served_some H c.args.conn (frames_in c.args.frames.now) c.args.words.now c.args.out.now _ _ _ _ _ _ (c.loop-word.invariant H stands)

pub returns-in_default-serve_frame : goal.returns-in_default-serve_frame
returns-in_default-serve_frame c = λ H stands. let e = c.in_default-serve_frame.ensures in
    served_before H c.args.conn (frames_in c.args.frames.now) c.args.words.now c.args.out.now _ _ _ _ _ _ _ _ _ (c.loop-word.invariant H stands) e.err_stands e.err_out e.err_taken

pub returns-then-eq : goal.returns-then-eq
returns-then-eq c = λ H stands. served_some H c.args.conn (frames_in c.args.frames.now) c.args.words.now c.args.out.now _ _ _ _ _ _
    (serving_more H c.args.conn (frames_in c.args.frames.now) c.args.words.now c.args.out.now _ _ _ _ _ _ _ _ _ _ _ _ _ (c.loop-word.invariant H stands) c.in-Some.ensures
    (drop_more c.args.words.now c.loop-word.word-index [] (omega (arith, c.loop-word-test.true))) c.in-Ok.ensures.ok)

pub loop-word-preserved : goal.loop-word-preserved
loop-word-preserved c = λ H stands. serving_more H c.args.conn (frames_in c.args.frames.now) c.args.words.now c.args.out.now _ _ _ _ _ _ _ _ _ _ _ _ _ (c.loop-word.invariant H stands) c.in-Some.ensures
    (drop_more c.args.words.now c.loop-word.word-index [] (omega (arith, c.loop-word-test.true))) c.in-Ok.ensures.ok

pub returns : goal.returns
returns c = λ H stands. served_all H c.args.conn (frames_in c.args.frames.now) c.args.words.now c.args.out.now _ _ _ _ _ _ (omega (arith, c.loop-word-test.false)) (c.loop-word.invariant H stands)
