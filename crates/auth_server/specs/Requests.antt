-- The requests of a client to the authentication server, after authsrv(6) of the Plan 9 manual: which kinds there are,
-- and how long a request is.
use Rattle.wire_base.specs.Kinds.{ticket_request, apop_request, cram_request}
use Rattle.std.specs.Prelude.{ℕ, List, Bool, false, ◌&&◌, ◌||◌, ◌==◌, slice_index, Option, Some, None, if◌then◌else◌}

-- a kind of request that is for a challenge, or answers it: that of a mail server
abbrev pub is_mail : ℕ → Bool
is_mail kind = kind == apop_request || kind == cram_request

-- the kinds that are served
abbrev pub is_served : ℕ → Bool
is_served kind = kind == ticket_request || is_mail kind

-- A request as it came, and the words of eight bytes that were drawn for it, the first of them first.
pub record Asked : Type 0 where
  pub request : List ℕ
  pub words : List (List ℕ)

abbrev pub asked_so : List ℕ → List (List ℕ) → Asked
asked_so request words = record { request = request; words = words }

-- the kind of a request: its first byte
abbrev pub kind_of : List ℕ → ℕ
kind_of request = slice_index request 0

-- a challenge that was given out: the kind of request that it was for, and its text
pub record Challenge : Type 0 where
  pub kind : ℕ
  pub text : List ℕ

-- whether a challenge is held for a kind
abbrev pub is_for : ℕ → Option Challenge → Bool
is_for kind None = false
is_for kind (Some challenge) = challenge.kind == kind

-- how many bytes a request has that begins with a kind: 141, and 32 digits behind these where it answers a challenge
-- that is held; none where no request of that kind is served
abbrev pub needed : Option Challenge → ℕ → Option ℕ
needed held kind = if is_served kind then Some (if is_mail kind && is_for kind held then 173 else 141) else None
