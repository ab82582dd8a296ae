-- Requests of rpc, after factotum(4) of the Plan 9 manual: a verb, alone or with a blank and an argument behind it.
-- Nothing is stripped. That some verbs' arguments count for nothing, and the most bytes, are this project's.
use Rattle.std.specs.Prelude.{◌≡◌, ℕ, List, [], ◌∷◌, ◌==◌, nat_lt, length, take, drop, codes, Option, Some, None, Result, Ok, Err, if◌then◌else◌}
use Rattle.std.specs.Str.{bytes_eq}
use Rattle.talks.specs.declared.request.Request.{Request}
use Rattle.talks.specs.declared.request.Request.TheVariants as asked
use Rattle.talks.specs.declared.request.RpcFault.{RpcFault}
use Rattle.talks.specs.declared.request.RpcFault.TheVariants.{TooLong, UnknownVerb}
use Rattle.talks.specs.declared.request.TheConstants.{MOST_REQUEST}

pub data RpcRequest : Type 0 where
  -- the conversation is to be started by this template
  starts : (template : List ℕ) → RpcRequest
  -- the next message is to be got
  reads : RpcRequest
  -- this message is given
  writes : (message : List ℕ) → RpcRequest
  -- who was accepted, and the secret
  asks_info : RpcRequest
  -- the attributes of the conversation
  asks_attributes : RpcRequest

-- what stands behind a verb: nothing, or a blank and the argument
abbrev pub behind_verb : List ℕ → Option (List ℕ)
behind_verb [] = Some []
behind_verb (b ∷ argument) = if b == 32 then Some argument else None

-- the argument that a verb has in a text, where the text is that verb's
abbrev pub argument_in : List ℕ → List ℕ → Option (List ℕ)
argument_in verb text = if bytes_eq (take (length verb) text) verb then behind_verb (drop (length verb) text) else None

-- a request where the argument is there, else what follows
abbrev pub or_else : Option (List ℕ) → (List ℕ → RpcRequest) → Result RpcRequest RpcFault → Result RpcRequest RpcFault
or_else (Some argument) made later = Ok (made argument)
or_else None made later = later

-- the request of a text, or its first fault
unfoldable pub request_of : List ℕ → Result RpcRequest RpcFault
request_of text =
    if nat_lt MOST_REQUEST (length text) then Err TooLong
    else or_else (argument_in (codes "start") text) starts
    (or_else (argument_in (codes "read") text) (λ _. reads)
    (or_else (argument_in (codes "write") text) writes
    (or_else (argument_in (codes "authinfo") text) (λ _. asks_info)
    (or_else (argument_in (codes "attr") text) (λ _. asks_attributes) (Err UnknownVerb)))))

-- what the code calls it
abbrev pub meant : Request → RpcRequest
meant (asked.Start template) = starts template.now
meant asked.Read = reads
meant (asked.Write message) = writes message.now
meant asked.AuthInfo = asks_info
meant asked.Attr = asks_attributes

-- the request that a text is, or its first fault
abbrev pub Reads : Result Request RpcFault → List ℕ → Type 0
Reads (Ok request) text = request_of text ≡ Ok (meant request)
Reads (Err fault) text = request_of text ≡ Err fault
