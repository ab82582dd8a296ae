use Rattle.std.proofs.Common.{ap, ◌∙◌, arith}
use Rattle.std.specs.Result.{result_ok}
use Rattle.std.proofs.lemmas.Fmt.{parse-decimal}
use Rattle.trace_labels.proofs.Numbers.{number_is_text}
use Rattle.trace_labels.proofs.words.parse_number.Goals as goal

pub returns-in-Ok : goal.returns-in-Ok
returns-in-Ok c = λ number h e. c.ok.ensures.value ∙ ap result_ok (parse-decimal 32 number c.in-Ok.text.now c.parse.result h (omega (arith, h)) (c.in-Ok.ensures.cases.0 ∙ e) c.parse.ensures.value.0)

pub returns-in-Err : goal.returns-in-Err
returns-in-Err c = λ number h e. absurd (c.in-Err.ensures.cases.0 (number_is_text number c.args.word.now h e))
