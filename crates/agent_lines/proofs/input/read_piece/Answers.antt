use Rattle.std.proofs.Common.{arith, subst}
use Rattle.nine.specs.Framed.{Framing}
use Rattle.agent_lines.specs.Turns.{InputEndsBy}
use Rattle.agent_lines.proofs.LineLemmas.{read_ended, read_failed, read_more}
use Rattle.agent_lines.proofs.input.read_piece.Goals as goal

pub returns-in-Bytes-clause-told : goal.returns-in-Bytes-clause-told
returns-in-Bytes-clause-told g c = let got = c.in-Bytes.ensures.bytes in
    λ conn first seat words holds kept going short. read_more conn first seat words _ _ holds kept c.args.framer.now _ got.1.0 going got.1.3 (omega (arith, got.0, got.1.2, c.requires.few)) got.1.4

pub returns-in-End-clause-told : goal.returns-in-End-clause-told
returns-in-End-clause-told g c = let got = c.in-End.ensures.bytes in
    λ conn first seat words holds kept going short. read_ended conn first seat words _ _ holds kept c.args.framer.now c.end_of.result going short got.1 got.0 (subst (λ (f : Framing). InputEndsBy f c.end_of.result) got.2 c.end_of.ensures)

pub returns-in-Failed-clause-told : goal.returns-in-Failed-clause-told
returns-in-Failed-clause-told g c = let got = c.in-Failed.ensures.bytes in
    λ conn first seat words holds kept going short. read_failed conn first seat words _ _ holds kept c.args.framer.now going short got.0
