-- What the texts of requests are read as.
use Rattle.std.proofs.Common.{◌≡◌, Bool, true, false, cond, ltb, length, Result, Ok, Err, refl, ap, ◌∙◌, sym}
use Rattle.talks.specs.Requests.{RpcRequest}
use Rattle.talks.specs.Requests as rpc
use Rattle.talks.specs.declared.request.RpcFault.{RpcFault}
use Rattle.talks.specs.declared.request.RpcFault.TheVariants as fault
use Rattle.talks.specs.declared.request.TheConstants.{MOST_REQUEST}
use Rattle.agent_history.specs.Requests.{is_too_long}
use Rattle.world_history.specs.Talking.{Asks, gets, gives, request_text, starts}
use Rattle.world_promises.specs.Agents.{asked_as}

-- a request, where it isn't too long
abbrev pub if_short : Bool → RpcRequest → Result RpcRequest RpcFault
if_short long request = cond long (Err fault.TooLong) (Ok request)

pub text_asked : (what : Asks) → rpc.request_of (request_text what) ≡ if_short (ltb MOST_REQUEST (length (request_text what))) (asked_as what)
unfolding rpc.request_of
text_asked (starts word tuple) = refl
text_asked gets = refl
text_asked (gives bytes) = refl

short_asked : (long : Bool) (request : RpcRequest) → is_too_long (if_short long request) ≡ false → if_short long request ≡ Ok request
short_asked true request e = absurd cc
short_asked false request e = refl

pub asked_text : (what : Asks) → is_too_long (rpc.request_of (request_text what)) ≡ false → rpc.request_of (request_text what) ≡ Ok (asked_as what)
asked_text what short = text_asked what ∙ short_asked (ltb MOST_REQUEST (length (request_text what))) (asked_as what) (sym (ap is_too_long (text_asked what)) ∙ short)
