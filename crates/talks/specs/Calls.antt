-- What a conversation of rpc met, as a list of calls, the newest first. What stands behind a call is all that the
-- conversation met before it. After factotum(4) of the Plan 9 manual (rpc, confirm, needkey).
use Rattle.std.specs.Prelude.{ℕ, List, Bool}
use Rattle.key_lists.specs.Lists.{KeyEntry}
use Rattle.talks.specs.Requests.{RpcRequest}

-- what a search among the keys of a moment comes to: a key, a list of offers, or a pick is searched for
pub data Found : Type 0 where
  -- this key is to be used
  Chosen : (key : KeyEntry) → Found
  -- the user is to be asked whether this key may be used
  AsksConsent : (key : KeyEntry) → Found
  -- the user is to be asked for a key
  AsksKey : Found
  -- there is a key, and it may not be used
  Denied : Found
  -- there is no key
  NoneServes : Found
  -- this is the list of what the keys that serve offer, empty where none serves
  Offered : (list : List ℕ) → Found
  -- this is the place of the template that is picked
  Picked : (place : ℕ) → Found

pub data Call : Type 0 where
  -- a request was written; it isn't carried out yet
  Stored : (request : RpcRequest) → Call
  -- the request is carried out, by a read for which this word was drawn
  CarriedOut : (word : List ℕ) → Call
  -- what it needs of the keys was searched for
  Sought : (found : Found) → Call
  -- the user was asked whether a key may be used, and answered
  Consented : (agrees : Bool) → Call
  -- the user was asked for a key, and answered
  KeyTold : Call
  -- the file by which the user was asked was closed
  Shut : Call
  -- the authentication server answered; it wasn't reached; there was no memory for its answer
  Heard : (bytes : List ℕ) → Call
  Unheard : Call
  Roomless : Call
  -- the answer to the request was read
  Took : Call
