-- What is so of each role that a conversation may have, whatever it met: how its answers, its needs and its end go
-- together.
use Rattle.std.specs.Prelude.{◌≡◌, ℕ, List, [], ◌∷◌, true, false}
use Rattle.roles.specs.declared.answer.Gave.TheVariants as g
use Rattle.roles.specs.declared.need.Need.TheVariants.{Nothing}
use Rattle.roles.specs.declared.need.Outcome.TheVariants.{Running}
use Rattle.roles.specs.Answers.{is_sought}
use Rattle.roles.specs.Talks.{Call, give, get, heard, unheard, undone}
use Rattle.talks.specs.Protocols.{is_over}
use Rattle.conv_p9any.specs.Talks.{needs_any}
use Rattle.wire_histories.specs.Conversations.{Speaker, end_by, is_asked, is_given, is_taken, meets}

pub record IsRole (s : Speaker) : Type 0 where
  -- a start neither ends nor asks the authentication server
  pub begins : s.ends [] ≡ Running
  pub asks_nobody : is_asked (s.needs []) ≡ false
  -- no answer is want of memory
  pub has_room : (talk : List Call) (call : Call) → s.answers talk call ≡ g.NoMemory → ⊥
  -- an end stays
  pub stays : (talk : List Call) (call : Call) → is_over (s.ends talk) ≡ true → s.ends (call ∷ talk) ≡ s.ends talk
  -- what searches hasn't ended
  pub goes_on : (talk : List Call) → is_sought (s.needs talk) ≡ true → s.ends talk ≡ Running
  -- a message that is got needs nothing and ends nothing, and isn't waited for
  pub got : (talk : List Call) → s.needs talk ≡ Nothing → s.needs (get ∷ talk) ≡ Nothing
  pub given : (talk : List Call) → s.needs talk ≡ Nothing → is_given (s.answers talk get) ≡ true
      → end_by (s.ends talk) (s.ends (get ∷ talk)) ≡ []
  pub at_once : (talk : List Call) → s.needs talk ≡ Nothing → s.answers talk get ≡ g.Wait → ⊥
  -- bytes by which something is needed are taken; one thing is, or the write is undone
  pub taken : (talk : List Call) (b : List ℕ) → s.needs talk ≡ Nothing → needs_any (s.needs (give b ∷ talk)) ≡ true
      → is_taken (s.answers talk (give b)) ≡ true
  pub one : (talk : List Call) (b : List ℕ) (call : Call) → s.needs talk ≡ Nothing
      → meets (s.needs (give b ∷ talk)) call ≡ true → is_sought (s.needs (call ∷ give b ∷ talk)) ≡ false
  pub undoes : (talk : List Call) (b : List ℕ) → s.needs talk ≡ Nothing → is_sought (s.needs (give b ∷ talk)) ≡ true
      → s.needs (undone ∷ give b ∷ talk) ≡ Nothing
  pub unended : (talk : List Call) (b : List ℕ) → s.needs talk ≡ Nothing → is_sought (s.needs (give b ∷ talk)) ≡ true
      → s.ends (undone ∷ give b ∷ talk) ≡ s.ends talk
  -- what is found is taken
  pub met : (talk : List Call) (call : Call) → meets (s.needs talk) call ≡ true → is_taken (s.answers talk call) ≡ true
  -- behind an answer of the authentication server nothing is needed
  pub answered : (talk : List Call) (b : List ℕ) → is_asked (s.needs talk) ≡ true → s.needs (heard b ∷ talk) ≡ Nothing
  pub unanswered : (talk : List Call) → is_asked (s.needs talk) ≡ true → s.needs (unheard ∷ talk) ≡ Nothing
