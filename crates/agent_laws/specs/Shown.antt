-- What is shown of a conversation of rpc, its secrets left out: of a request its verb, and what it came to.
use Rattle.std.specs.Prelude.{ℕ, List, [], Bool, true, Option, Some, None, Result, Ok, Err, option_map}
use Rattle.std.specs.List.{list_all}
use Rattle.attr_tuples.specs.declared.attr.Attr.{Attr}
use Rattle.attr_tuples.specs.Attributes.{is_public}
use Rattle.attr_tuples.specs.Printing.{public_text}
use Rattle.key_lists.specs.CtlLines.{few_of}
use Rattle.talks.specs.RpcAnswers.{title_of}
use Rattle.talks.specs.Requests.{RpcRequest, starts, reads, writes, asks_info, asks_attributes}
use Rattle.talks.specs.declared.request.RpcFault.{RpcFault}
use Rattle.roles.specs.declared.answer.Cause.{Cause}
use Rattle.roles.specs.declared.need.Need.{Need}
use Rattle.roles.specs.declared.need.Need.TheVariants.{Nothing, Key, Offers, Pick, Exchange}
use Rattle.roles.specs.declared.need.Outcome.{Outcome}
use Rattle.roles.specs.declared.need.Outcome.TheVariants.{Running, Accepted, Finished, Broken}
use Rattle.talks.specs.Protocols.{ends}
use Rattle.talks.specs.Standings.{Begun, Phase, Waiting, Seeking, OnServer, Kept, Standing, carried_out, need_in}

-- ---- requests

-- a request: its verb, and the template of a start without its secrets, where it is one
pub data ShownRequest : Type 0 where
  Starts : (template : Option (List ℕ)) → ShownRequest
  Reads : ShownRequest
  Writes : ShownRequest
  AsksInfo : ShownRequest
  AsksAttributes : ShownRequest

abbrev pub shown_request : RpcRequest → ShownRequest
shown_request (starts template) = Starts (option_map public_text (few_of template))
shown_request reads = Reads
shown_request (writes message) = Writes
shown_request asks_info = AsksInfo
shown_request asks_attributes = AsksAttributes

-- what is written, where it is a request
abbrev pub shown_content : Result RpcRequest RpcFault → Option ShownRequest
shown_content (Ok request) = Some (shown_request request)
shown_content (Err fault) = None

-- ---- what a request came to

-- what is needed: a key, or the offers of the keys, by this template; one of these templates to be picked, which are
-- those of the words of a p9any server; or the authentication server's answer
pub data ShownNeed : Type 0 where
  NeedsNothing : ShownNeed
  Searches : (template : List Attr) → ShownNeed
  Picks : (templates : List (List Attr)) → ShownNeed
  NeedsServer : ShownNeed

abbrev pub shown_need : Need → ShownNeed
shown_need Nothing = NeedsNothing
shown_need (Key template) = Searches template
shown_need (Offers template) = Searches template
shown_need (Pick templates) = Picks templates
shown_need (Exchange request shape) = NeedsServer

-- all that is searched for is public
abbrev pub asks_in_public : ShownNeed → Bool
asks_in_public (Searches template) = list_all is_public template
asks_in_public (Picks templates) = list_all (λ template. list_all is_public template) templates
asks_in_public NeedsNothing = true
asks_in_public NeedsServer = true

-- how it has ended, where it accepted somebody or broke
pub data ShownEnd : Type 0 where
  AcceptsNone : ShownEnd
  Accepts : (user : List ℕ) → ShownEnd
  Breaks : (cause : Cause) → ShownEnd

abbrev pub shown_end : Outcome → ShownEnd
shown_end Running = AcceptsNone
shown_end (Accepted info) = Accepts info.suid
shown_end Finished = AcceptsNone
shown_end (Broken cause) = Breaks cause

abbrev pub end_of : Option Begun → Option ShownEnd
end_of begun = option_map (λ b. shown_end (ends b.start b.moves)) begun

-- what a request came to that was carried out, or that the authentication server's answer was for: what is needed
-- then, or how its answer begins, and how the conversation has ended, if it was started
pub record ShownResult : Type 0 where
  pub need : ShownNeed
  pub word : List ℕ
  pub ending : Option ShownEnd

abbrev pub came_by : Phase → ShownNeed → Option ShownEnd → ShownResult
came_by Seeking need ending = record { need = need; word = []; ending = ending }
came_by OnServer need ending = record { need = NeedsServer; word = []; ending = ending }
came_by (Kept answer) need ending = record { need = NeedsNothing; word = title_of answer; ending = ending }
came_by phase need ending = record { need = NeedsNothing; word = []; ending = ending }

abbrev pub came_to : Standing → ShownResult
came_to s = came_by s.phase (shown_need (need_in s.begun)) (end_of s.begun)

-- what the request that waits comes to that is carried out by a read with this word, if one waits
abbrev pub came_by_read : Standing → List ℕ → Phase → Option ShownResult
came_by_read s word (Waiting request) = Some (came_to (carried_out s word request))
came_by_read s word phase = None
