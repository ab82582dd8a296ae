-- A write of a short text is a whole frame.
use Rattle.std.proofs.Common.{◌≡◌, ◌<◌, ℕ, List, length, ap, arith}
use Rattle.nine.specs.Messages.{frame, t_frame, IsRequest}
use Rattle.nine.specs.Decoding.{IsFrame}
use Rattle.nine.proofs.FrameLemmas.{request_whole}
use Rattle.side_files.specs.declared.line.PromptKind.{PromptKind}
use Rattle.side_files.specs.declared.line.PromptKind.TheVariants.{Confirm, Needkey}
use Rattle.prompters.specs.Requests.{write_of}

pub write_whole : (bytes text : List ℕ) (file : PromptKind) → length text < 64 → bytes ≡ t_frame (write_of file text) → IsFrame bytes
unfolding frame
write_whole bytes text Confirm few is = request_whole bytes (write_of Confirm text) (record { spelling = is; tag = omega arith; fields = ((omega arith, omega arith), omega (arith, few)) }) (omega (arith, ap length is, few))
write_whole bytes text Needkey few is = request_whole bytes (write_of Needkey text) (record { spelling = is; tag = omega arith; fields = ((omega arith, omega arith), omega (arith, few)) }) (omega (arith, ap length is, few))
