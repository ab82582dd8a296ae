use Rattle.std.proofs.Common.{◌≡◌, ◌∙◌, ap, rules, string_bytes}
use Rattle.world_program.specs.Summing.{summary}
use Rattle.world_program.proofs.PlayLemmas.{made_ends, made_front, made_sums}
use Rattle.world_program.proofs.generated.play_gen.Goals as goal

pub returns-in-Err-clause-ends : goal.returns-in-Err-clause-ends
returns-in-Err-clause-ends g c = made_ends c.in-Err.status c.args.given.number c.args.given.rounds _ c.requires c.in-Err.ensures.err

pub returns-in-Ok-write_all-clause-ends : goal.returns-in-Ok-write_all-clause-ends
returns-in-Ok-write_all-clause-ends g c =
    let steps : c.as_slice.result.now ≡ c.in-Ok.record = search rules in
    let bytes : c.as_bytes.result.now ≡ string_bytes c.in-Ok-summary.line = search rules in
    made_sums c.args.given.number c.args.given.rounds c.in-Ok.record c.as_bytes.result.now _ _ c.in-Ok.ensures.ok
    (bytes ∙ (c.in-Ok-summary.ensures ∙ ap (summary c.args.given.rounds) steps)) c.in-Ok-write_all.ensures.ok

pub returns-clause-ends : goal.returns-clause-ends
returns-clause-ends g c =
    let steps : c.as_slice.result.now ≡ c.in-Ok.record = search rules in
    let bytes : c.as_bytes.result.now ≡ string_bytes c.in-Ok-summary.line = search rules in
    made_front c.args.given.number c.args.given.rounds c.in-Ok.record c.as_bytes.result.now _ _ c.in-Ok.ensures.ok
    (bytes ∙ (c.in-Ok-summary.ensures ∙ ap (summary c.args.given.rounds) steps)) c.in-Err-write_all.ensures.err
