-- What the sessions of an authentication server are by their names, and what a request to one comes to. This serves
-- proofs alone.
use Rattle.std.specs.Prelude.{◌≡◌, ℕ, List, [], ◌∷◌, ◌++◌, length, Bool, true, false, not, ◌&&◌, ◌||◌, ◌==◌, Option, Some, None, if◌then◌else◌}
use Rattle.std.specs.Map.{lookup}
use Rattle.std.specs.Str.{bytes_eq}
use Rattle.auth_server.specs.Answers.{Posed, answer_in, held_in, is_over_in}
use Rattle.auth_server.specs.Requests.{is_served, kind_of, needed}
use Rattle.auth_server.specs.Standing.{Stands}
use Rattle.world_history.specs.Scripts.{has_length}
use Rattle.world_run.specs.declared.live.Client.{Client}
use Rattle.world_run.specs.declared.live.Client.TheVariants as client
use Rattle.world_run.specs.declared.live.Live.{Live}
use Rattle.world_run.specs.declared.clients.Fit.{Fit}
use Rattle.world_run.specs.declared.clients.Fit.TheVariants as fit
use Rattle.world_run.specs.declared.clients.Served.{Served}
use Rattle.world_run.specs.declared.clients.Served.TheVariants as served

-- ---- what is known by name

-- the requests that each session answered, the newest first, each with what was known when it came, and which were
-- given one of a kind that isn't served
pub record View : Type 0 where
  pub requests : List ℕ → List Posed
  pub misasked : List ℕ → Bool

abbrev pub has_ended : Bool → List Posed → Bool
has_ended misasked requests = if misasked then true else is_over_in requests

-- nothing was asked under a name
pub record IsNew (requests : List Posed) (misasked : Bool) : Type 0 where
  pub none : requests ≡ []
  pub goes_on : misasked ≡ false

-- a session that goes on stands for its requests
pub record IsLive (requests : List Posed) (misasked : Bool) (live : Live) : Type 0 where
  pub stands : Stands requests live.session
  pub goes_on : has_ended misasked requests ≡ false

abbrev pub IsClient : List Posed → Bool → Client → Type 0
IsClient requests misasked (client.Goes live) = IsLive requests misasked live
IsClient requests misasked client.Ended = has_ended misasked requests ≡ true

abbrev pub ClientIs : List Posed → Bool → Option Client → Type 0
ClientIs requests misasked None = IsNew requests misasked
ClientIs requests misasked (Some client) = IsClient requests misasked client

abbrev pub ClientsAre : View → List (List ℕ × Client) → Type 0
ClientsAre v clients = (name : List ℕ) → ClientIs (v.requests name) (v.misasked name) (lookup (bytes_eq name) clients)

-- ---- what happens

-- a session answers a request
abbrev pub answered : List ℕ → Posed → View → View
answered name p v = record {
  requests = λ other. if bytes_eq name other then p ∷ v.requests other else v.requests other;
  misasked = v.misasked;
}

-- a session is given a request of a kind that isn't served
abbrev pub misasked : List ℕ → View → View
misasked name v = record {
  requests = v.requests;
  misasked = λ other. if bytes_eq name other then true else v.misasked other;
}

-- ---- what comes of it

-- a request isn't one: it is empty, or is of a kind that is served and hasn't its length
abbrev pub is_misshaped : List Posed → List ℕ → Bool
is_misshaped requests request = length request == 0
    || (is_served (kind_of request)
    && not (has_length (length request) (needed (held_in requests) (kind_of request))))

-- what a request is to a session
abbrev pub FitsSo : List Posed → List ℕ → Fit → Type 0
FitsSo requests request fit.Unfit = is_misshaped requests request ≡ true
FitsSo requests request fit.Unserved =
    (is_misshaped requests request ≡ false) × (is_served (kind_of request) ≡ false)
FitsSo requests request fit.Served = (is_misshaped requests request ≡ false) × (is_served (kind_of request) ≡ true)

-- a session that stands so takes no such request
abbrev pub is_refused : List Posed → Bool → List ℕ → Bool
is_refused requests misasked request = has_ended misasked requests || is_misshaped requests request

-- what one session makes of a request
pub record OneAnswers (requests : List Posed) (misasked : Bool) (p : Posed) (over : Bool) (old new : List ℕ)
    (left : Client) : Type 0 where
  pub fits : is_refused requests misasked p.asked.request ≡ false
  pub served : is_served (kind_of p.asked.request) ≡ true
  pub put : new ≡ old ++ answer_in requests p
  pub ends : over ≡ is_over_in (p ∷ requests)
  pub client : IsClient (p ∷ requests) misasked left

pub record OneEnds (requests : List Posed) (misasked : Bool) (p : Posed) (left : Client) : Type 0 where
  pub fits : is_refused requests misasked p.asked.request ≡ false
  pub served : is_served (kind_of p.asked.request) ≡ false
  pub client : IsClient requests true left

abbrev pub OneServes : List Posed → Bool → Posed → Served → List ℕ → List ℕ → Client → Type 0
OneServes requests misasked p served.Refused old new client = is_refused requests misasked p.asked.request ≡ true
OneServes requests misasked p (served.Answered ends) old new client =
    OneAnswers requests misasked p ends old new client
OneServes requests misasked p served.Ended old new client = OneEnds requests misasked p client

-- the same among others, by its name
pub record Answers (v : View) (name : List ℕ) (p : Posed) (over : Bool) (old new : List ℕ)
    (left : List (List ℕ × Client)) : Type 0 where
  pub fits : is_refused (v.requests name) (v.misasked name) p.asked.request ≡ false
  pub served : is_served (kind_of p.asked.request) ≡ true
  pub put : new ≡ old ++ answer_in (v.requests name) p
  pub ends : over ≡ is_over_in (p ∷ v.requests name)
  pub clients : ClientsAre (answered name p v) left

pub record Ends (v : View) (name : List ℕ) (p : Posed) (left : List (List ℕ × Client)) : Type 0 where
  pub fits : is_refused (v.requests name) (v.misasked name) p.asked.request ≡ false
  pub served : is_served (kind_of p.asked.request) ≡ false
  pub clients : ClientsAre (misasked name v) left

abbrev pub ServesSo : View → List ℕ → Posed → Served → List ℕ → List ℕ → List (List ℕ × Client) → Type 0
ServesSo v name p served.Refused old new clients =
    is_refused (v.requests name) (v.misasked name) p.asked.request ≡ true
ServesSo v name p (served.Answered ends) old new clients = Answers v name p ends old new clients
ServesSo v name p served.Ended old new clients = Ends v name p clients
