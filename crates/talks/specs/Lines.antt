-- The lines that a conversation writes into the log, each with its newline: that it has started, that its role is
-- done and whom it accepted, and why it broke. After factotum(4) of the Plan 9 manual (log); the exact texts are this
-- project's.
use Rattle.std.specs.Prelude.{ℕ, List, [], ◌∷◌, ◌++◌, drop, length, Bool, false, not, ◌&&◌, codes, Option, Some, None, is_some, if◌then◌else◌}
use Rattle.std.specs.Fmt.{decimal}
use Rattle.attr_tuples.specs.Words.{value_text}
use Rattle.attr_tuples.specs.declared.attr.Attr.{Attr}
use Rattle.attr_tuples.specs.Matching.{value_of}
use Rattle.talks.specs.Protocols.{is_over}
use Rattle.roles.specs.declared.answer.Cause.{Cause}
use Rattle.roles.specs.declared.answer.Cause.TheVariants as c
use Rattle.roles.specs.declared.need.Outcome.{Outcome}
use Rattle.roles.specs.declared.need.Outcome.TheVariants.{Running, Accepted, Finished, Broken}
use Rattle.talks.specs.RpcAnswers.{title_of}
use Rattle.talks.specs.Answers.{cause_answer, text_or_none}
use Rattle.talks.specs.Standings.{Begun, Standing, outcome_of}

-- the protocol and the role that a start names
abbrev pub role_text : List Attr → List ℕ
role_text template = codes " proto=" ++
    (value_text (text_or_none (value_of (codes "proto") template))
    ++ (codes " role=" ++ value_text (text_or_none (value_of (codes "role") template))))

-- the conversation of a number has started
abbrev pub start_line : ℕ → List Attr → List ℕ
start_line conv template = decimal conv ++ (codes " start" ++ (role_text template ++ codes "\n"))

-- how the line begins of a role that is done
abbrev pub done_front : ℕ → List Attr → List ℕ
done_front conv template = decimal conv ++ (codes " done" ++ role_text template)

-- it has given all that it gives, and accepts nobody
abbrev pub done_line : ℕ → List Attr → List ℕ
done_line conv template = done_front conv template ++ codes "\n"

-- it accepted a user
abbrev pub accept_line : ℕ → List Attr → List ℕ → List ℕ
accept_line conv template user = done_front conv template ++ (codes " user=" ++ (value_text user ++ codes "\n"))

-- how the line begins of a role that broke
abbrev pub error_front : ℕ → List ℕ
error_front conv = decimal conv ++ codes " error "

-- why it broke, as its answer tells it behind `error `; of a key that was wrong no more than that it was
abbrev pub cause_text : Cause → List ℕ
cause_text c.BadKey = codes "badkey"
cause_text cause = drop (length (codes "error ")) (title_of (cause_answer None cause))

abbrev pub error_line : ℕ → Cause → List ℕ
error_line conv cause = error_front conv ++ (cause_text cause ++ codes "\n")

-- ---- the lines that follow on what it met

-- it has come to its end
abbrev pub is_end : Option Outcome → Bool
is_end None = false
is_end (Some outcome) = is_over outcome

-- the template of its start
abbrev pub start_template : Option Begun → List Attr
start_template None = []
start_template (Some b) = b.start.template

-- the line of an end, where it is one
abbrev pub end_line : ℕ → List Attr → Option Outcome → List (List ℕ)
end_line conv template None = []
end_line conv template (Some Running) = []
end_line conv template (Some (Accepted info)) = accept_line conv template info.suid ∷ []
end_line conv template (Some Finished) = done_line conv template ∷ []
end_line conv template (Some (Broken cause)) = error_line conv cause ∷ []

-- it comes to its end between two standings
abbrev pub end_part : ℕ → List Attr → Option Outcome → Option Outcome → List (List ℕ)
end_part conv template before now = if is_end before then [] else end_line conv template now

-- it starts between them; that is told where the further lines are wanted
abbrev pub start_part : Bool → ℕ → List Attr → Option Outcome → Option Outcome → List (List ℕ)
start_part debug conv template before now =
    if debug && (not (is_some before) && is_some now) then start_line conv template ∷ []
    else []

-- the lines of a conversation that stood so and stands so now
abbrev pub log_lines : Bool → ℕ → Standing → Standing → List (List ℕ)
log_lines debug conv before now = start_part debug conv (start_template now.begun) (outcome_of before) (outcome_of now)
    ++ end_part conv (start_template now.begun) (outcome_of before) (outcome_of now)
