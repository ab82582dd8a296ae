-- What the role of a conversation says, whatever its protocol: each question is asked of the role that the start's
-- template names. p9any chooses a domain of p9sk1, which is spoken then.
use Rattle.std.specs.Prelude.{ℕ, List, codes, Bool, true, false, Option, if◌then◌else◌}
use Rattle.attr_tuples.specs.declared.attr.Attr.{Attr}
use Rattle.roles.specs.declared.answer.Gave.{Gave}
use Rattle.roles.specs.declared.answer.StartFault.{StartFault}
use Rattle.roles.specs.declared.need.Need.{Need}
use Rattle.roles.specs.declared.need.Outcome.{Outcome}
use Rattle.roles.specs.Starts.{Start, fault_of, says, start_fault}
use Rattle.roles.specs.declared.need.Outcome.TheVariants.{Running, Accepted, Finished, Broken}
use Rattle.roles.specs.Talks.{Call}
use Rattle.roles.specs.Courses as sk
use Rattle.conv_p9any.specs.Inner.{Inner}
use Rattle.conv_p9any.specs.Courses as choice
use Rattle.conv_challenge.specs.Starts as mail_starts
use Rattle.conv_challenge.specs.Courses as mail

-- the protocols that a template may name
pub data Protocol : Type 0 where
  P9sk1 : Protocol
  P9any : Protocol
  -- APOP or CRAM
  Mail : Protocol

-- the protocol of a template; one that names none of them is refused as one of p9sk1 that doesn't name it
unfoldable pub protocol_of : List Attr → Protocol
protocol_of template =
    if says (codes "proto") (codes "p9any") template then P9any
    else if mail_starts.names_proto template then Mail
    else P9sk1

-- p9sk1, as the role that p9any leads to
abbrev pub p9sk1 : Inner
p9sk1 = record {
  name = codes "p9sk1";
  answers = sk.answer_after;
  puts = sk.puts_after;
  needs = sk.need_after;
  ends = sk.outcome_after;
  ended = sk.ended_after;
}

-- why a template starts no conversation, if it starts none
abbrev pub refuses_by : Protocol → List Attr → Option StartFault
refuses_by P9sk1 template = start_fault template
refuses_by P9any template = fault_of (codes "p9any") template
refuses_by Mail template = mail_starts.start_fault template

abbrev pub refuses : List Attr → Option StartFault
refuses template = refuses_by (protocol_of template) template

-- what a call is answered after those before it, and the bytes that it gets
abbrev pub answers_by : Protocol → Start → List Call → Call → Gave
answers_by P9sk1 start talk call = sk.answer_after start talk call
answers_by P9any start talk call = choice.answer_after p9sk1 start talk call
answers_by Mail start talk call = mail.answer_after start talk call

abbrev pub answers : Start → List Call → Call → Gave
answers start talk call = answers_by (protocol_of start.template) start talk call

abbrev pub puts_by : Protocol → Start → List Call → Call → List ℕ
puts_by P9sk1 start talk call = sk.puts_after start talk call
puts_by P9any start talk call = choice.puts_after p9sk1 start talk call
puts_by Mail start talk call = mail.puts_after start talk call

abbrev pub puts : Start → List Call → Call → List ℕ
puts start talk call = puts_by (protocol_of start.template) start talk call

-- what is needed after some calls, how the conversation has ended, and whether the last move was made
abbrev pub needs_by : Protocol → Start → List Call → Need
needs_by P9sk1 start talk = sk.need_after start talk
needs_by P9any start talk = choice.need_after p9sk1 start talk
needs_by Mail start talk = mail.need_after start talk

abbrev pub needs : Start → List Call → Need
needs start talk = needs_by (protocol_of start.template) start talk

abbrev pub ends_by : Protocol → Start → List Call → Outcome
ends_by P9sk1 start talk = sk.outcome_after start talk
ends_by P9any start talk = choice.outcome_after p9sk1 start talk
ends_by Mail start talk = mail.outcome_after start talk

abbrev pub ends : Start → List Call → Outcome
ends start talk = ends_by (protocol_of start.template) start talk

abbrev pub has_ended_by : Protocol → Start → List Call → Bool
has_ended_by P9sk1 start talk = sk.ended_after start talk
has_ended_by P9any start talk = choice.ended_after p9sk1 start talk
has_ended_by Mail start talk = mail.ended_after start talk

abbrev pub has_ended : Start → List Call → Bool
has_ended start talk = has_ended_by (protocol_of start.template) start talk

-- it has come to its end
abbrev pub is_over : Outcome → Bool
is_over Running = false
is_over (Accepted info) = true
is_over Finished = true
is_over (Broken cause) = true
