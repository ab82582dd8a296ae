use Rattle.std.proofs.Common.{◌++◌, List, ℕ, sym, ap, subst, ◌∙◌}
use Rattle.nine.specs.declared.message.TMsg.{TMsg}
use Rattle.nine.specs.Messages.{t_frame}
use Rattle.nine.specs.Decoding.{IsFrame}
use Rattle.door_ports.proofs.FrameLemmas.{request_whole}
use Rattle.door_ports.proofs.frames.under.Goals as goal

pub returns-clause-frame : goal.returns-clause-frame
returns-clause-frame c =
    let m : TMsg = record { tag = c.args.tag; body = c.args.body } in
    subst IsFrame (sym (c.in_ok-encode_t.ensures.ok ∙ ap (λ (l : List ℕ). l ++ t_frame m) c.new-frame.ensures)) (request_whole m c.requires.short)
