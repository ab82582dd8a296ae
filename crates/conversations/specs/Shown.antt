-- What is shown of a conversation.
use Rattle.std.specs.Prelude.{ℕ, List, Bool, true, false, Option, Some, None}
use Rattle.wire_base.specs.declared.shape.Shape.{Shape}
use Rattle.attr_tuples.specs.declared.attr.Attr.{Attr}
use Rattle.roles.specs.declared.need.Need.{Need}
use Rattle.roles.specs.declared.need.Need.TheVariants as n
use Rattle.conversations.specs.declared.begun.Wanted.{Wanted}
use Rattle.conversations.specs.declared.begun.Wanted.TheVariants as w
use Rattle.talks.specs.declared.answer.RpcAnswer.{RpcAnswer}
use Rattle.talks.specs.Standings.{Phase, Resting, Waiting, Seeking, OnConfirm, OnNeedkey, OnServer, Kept}

-- it has no request and no answer
abbrev pub is_resting : Phase → Bool
is_resting Resting = true
is_resting (Waiting request) = false
is_resting Seeking = false
is_resting (OnConfirm serial) = false
is_resting OnNeedkey = false
is_resting OnServer = false
is_resting (Kept answer) = false

-- it has a request that isn't carried out yet
abbrev pub has_request : Phase → Bool
has_request Resting = false
has_request (Waiting request) = true
has_request Seeking = false
has_request (OnConfirm serial) = false
has_request OnNeedkey = false
has_request OnServer = false
has_request (Kept answer) = false

-- what is needed of the keys is to be searched for
abbrev pub is_seeking : Phase → Bool
is_seeking Resting = false
is_seeking (Waiting request) = false
is_seeking Seeking = true
is_seeking (OnConfirm serial) = false
is_seeking OnNeedkey = false
is_seeking OnServer = false
is_seeking (Kept answer) = false

-- the authentication server is asked
abbrev pub waits_for_server : Phase → Bool
waits_for_server Resting = false
waits_for_server (Waiting request) = false
waits_for_server Seeking = false
waits_for_server (OnConfirm serial) = false
waits_for_server OnNeedkey = false
waits_for_server OnServer = true
waits_for_server (Kept answer) = false

-- its user is asked
abbrev pub asks_user : Phase → Bool
asks_user Resting = false
asks_user (Waiting request) = false
asks_user Seeking = false
asks_user (OnConfirm serial) = true
asks_user OnNeedkey = true
asks_user OnServer = false
asks_user (Kept answer) = false

-- the number of the key whose use he is asked about
abbrev pub serial_in : Phase → Option ℕ
serial_in (OnConfirm serial) = Some serial
serial_in Resting = None
serial_in (Waiting request) = None
serial_in Seeking = None
serial_in OnNeedkey = None
serial_in OnServer = None
serial_in (Kept answer) = None

-- he is asked for a key
abbrev pub asks_for_key : Phase → Bool
asks_for_key OnNeedkey = true
asks_for_key Resting = false
asks_for_key (Waiting request) = false
asks_for_key Seeking = false
asks_for_key (OnConfirm serial) = false
asks_for_key OnServer = false
asks_for_key (Kept answer) = false

-- it has an answer that wasn't read yet
abbrev pub has_answer : Phase → Bool
has_answer Resting = false
has_answer (Waiting request) = false
has_answer Seeking = false
has_answer (OnConfirm serial) = false
has_answer OnNeedkey = false
has_answer OnServer = false
has_answer (Kept answer) = true

-- that answer
abbrev pub answer_in : Phase → Option RpcAnswer
answer_in (Kept answer) = Some answer
answer_in Resting = None
answer_in (Waiting request) = None
answer_in Seeking = None
answer_in (OnConfirm serial) = None
answer_in OnNeedkey = None
answer_in OnServer = None

-- the template that is asked of a key, if a key is needed
abbrev pub asked_in : Need → Option (List Attr)
asked_in (n.Key template) = Some template
asked_in (n.Offers template) = None
asked_in (n.Pick templates) = None
asked_in (n.Exchange request shape) = None
asked_in n.Nothing = None

-- the question for the authentication server, if there is one
abbrev pub exchange_in : Need → Option (List ℕ × Shape)
exchange_in (n.Exchange request shape) = Some (request, shape)
exchange_in (n.Key template) = None
exchange_in (n.Offers template) = None
exchange_in (n.Pick templates) = None
exchange_in n.Nothing = None

-- which of the things that are searched for is needed
abbrev pub wanted_in : Need → Wanted
wanted_in n.Nothing = w.Nothing
wanted_in (n.Key template) = w.Key
wanted_in (n.Offers template) = w.Offers
wanted_in (n.Pick templates) = w.Pick
wanted_in (n.Exchange request shape) = w.Nothing
