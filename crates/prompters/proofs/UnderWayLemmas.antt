-- Which reads are under way of what a program that answers for its user asks for.
use Rattle.std.proofs.Common.{◌≡◌, ℕ, ◌+◌, List, [], ◌∷◌, ◌++◌, Bool, true, false, ◌&&◌, ◌||◌, cond, Option, Some, None, refl, sym, ap, ◌∙◌, true≢false, arith}
use Rattle.std.specs.Prelude.{is_some, is_none}
use Rattle.nine.specs.declared.message.TMsg.{TMsg}
use Rattle.side_files.specs.declared.line.PromptKind.{PromptKind}
use Rattle.side_files.specs.declared.line.PromptKind.TheVariants.{Confirm, Needkey}
use Rattle.side_files.specs.declared.question.Question.{Question}
use Rattle.prompters.specs.Manners.{Manner}
use Rattle.prompters.specs.Replies.{file_read, question_read}
use Rattle.prompters.specs.Wanted.{OneReadUnderWay, answers_to, chain_behind, is_over, is_read_of, reads_of, replies_to, wanted}

or_parts : (a b : Bool) → (a || b) ≡ false → (a ≡ false) × (b ≡ false)
or_parts false b e = (refl, e)
or_parts true b e = absurd (true≢false e)

-- what a reply is answered by, and how the counts go on
step : (file : PromptKind) (of : Option PromptKind) (question : Option Question) (chain : List Manner) (older : List TMsg) (n : ℕ) → cond (is_some of) (is_none question) false ≡ false → reads_of file older ≡ n + 1
    → reads_of file (answers_to of question chain ++ older) ≡ (cond (is_read_of file of) 1 0 + n) + 1
step Confirm None question chain older n some so = omega (arith, so)
step Needkey None question chain older n some so = omega (arith, so)
step file (Some f) None chain older n some so = absurd (true≢false some)
step Confirm (Some Confirm) (Some q) chain older n some so = omega (arith, so)
step Confirm (Some Needkey) (Some q) chain older n some so = omega (arith, so)
step Needkey (Some Confirm) (Some q) chain older n some so = omega (arith, so)
step Needkey (Some Needkey) (Some q) chain older n some so = omega (arith, so)

as_cond : (a b : Bool) → (a && b) ≡ false → cond a b false ≡ false
as_cond true b e = e
as_cond false b e = refl

pub one_under_way : OneReadUnderWay
one_under_way chain [] Confirm on = refl
one_under_way chain [] Needkey on = refl
one_under_way chain (reply ∷ older) file on =
    let parts = or_parts (is_over older) (is_some (file_read reply) && is_none (question_read reply)) on in
    rw on (step file (file_read reply) (question_read reply) (chain_behind chain older) (wanted chain older) (replies_to file older) (as_cond (is_some (file_read reply)) (is_none (question_read reply)) parts.1) (one_under_way chain older file parts.0))
