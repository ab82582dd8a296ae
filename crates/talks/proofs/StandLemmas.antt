-- From what a machine tells and keeps to what the conversation over it does, by the protocol of the start.
use Rattle.std.proofs.Common.{◌≡◌, ℕ, List, ◌∷◌, ◌++◌, Bool, sym, subst}
use Rattle.roles.specs.declared.answer.Gave.{Gave}
use Rattle.roles.specs.declared.need.Need.{Need}
use Rattle.roles.specs.declared.need.Need.TheVariants.{Nothing}
use Rattle.roles.specs.declared.need.Outcome.{Outcome}
use Rattle.roles.specs.Answers.{Comes, IsKey, IsOffers, IsPick, Keeps, KeepsAlways, Puts, Shows, TakesBack, Tells, TellsAlways, bytes_with, talk_with}
use Rattle.roles.specs.Starts.{Start}
use Rattle.roles.specs.Talks.{Call}
use Rattle.talks.specs.Protocols.{Protocol, answers, answers_by, ends, ends_by, has_ended, has_ended_by, needs, needs_by, protocol_of, puts, puts_by}
use Rattle.talks.specs.Standing.{In}

pub tells_in : {M : Type 0} (p : Protocol) (stands : M → Start → List Call → Type 0) (m : M) (gave : Gave) (call : Call) → Tells stands (answers_by p) m gave call → Tells (In p stands) answers m gave call
tells_in p stands m gave call tells = λ start talk s. subst (λ (q : Protocol). Comes gave (answers_by q start talk call)) (sym s.0) (tells start talk s.1)

pub keeps_in : {M : Type 0} (p : Protocol) (stands : M → Start → List Call → Type 0) (old new : M) (gave : Gave) (call : Call) → Keeps stands old new gave call → Keeps (In p stands) old new gave call
keeps_in p stands old new gave call keeps = λ start talk s. (s.0, keeps start talk s.1)

pub tells_always : {M : Type 0} (p : Protocol) (stands : M → Start → List Call → Type 0) (m : M) (gave : Gave) (call : Call) → TellsAlways stands (answers_by p) m gave call → TellsAlways (In p stands) answers m gave call
tells_always p stands m gave call tells = λ start talk s. subst (λ (q : Protocol). gave ≡ answers_by q start talk call) (sym s.0) (tells start talk s.1)

pub keeps_always : {M : Type 0} (p : Protocol) (stands : M → Start → List Call → Type 0) (old new : M) (call : Call) → KeepsAlways stands old new call → KeepsAlways (In p stands) old new call
keeps_always p stands old new call keeps = λ start talk s. (s.0, keeps start talk s.1)

pub puts_in : {M : Type 0} (p : Protocol) (stands : M → Start → List Call → Type 0) (m : M) (gave : Gave) (call : Call) (old new : List ℕ) → Puts stands (puts_by p) m gave call old new → Puts (In p stands) puts m gave call old new
puts_in p stands m gave call old new made = λ start talk s. subst (λ (q : Protocol). new ≡ old ++ bytes_with gave (puts_by q start talk call)) (sym s.0) (made start talk s.1)

pub needs_in : {M : Type 0} (p : Protocol) (stands : M → Start → List Call → Type 0) (m : M) (shown : Need) → Shows stands (needs_by p) m shown → Shows (In p stands) needs m shown
needs_in p stands m shown shows = λ start talk s. subst (λ (q : Protocol). shown ≡ needs_by q start talk) (sym s.0) (shows start talk s.1)

pub ends_in : {M : Type 0} (p : Protocol) (stands : M → Start → List Call → Type 0) (m : M) (shown : Outcome) → Shows stands (ends_by p) m shown → Shows (In p stands) ends m shown
ends_in p stands m shown shows = λ start talk s. subst (λ (q : Protocol). shown ≡ ends_by q start talk) (sym s.0) (shows start talk s.1)

pub ended_in : {M : Type 0} (p : Protocol) (stands : M → Start → List Call → Type 0) (m : M) (shown : Bool) → Shows stands (has_ended_by p) m shown → Shows (In p stands) has_ended m shown
ended_in p stands m shown shows = λ start talk s. subst (λ (q : Protocol). shown ≡ has_ended_by q start talk) (sym s.0) (shows start talk s.1)

pub back_in : {M : Type 0} (p : Protocol) (stands : M → Start → List Call → Type 0) (old new : M) → TakesBack stands (needs_by p) old new → TakesBack (In p stands) needs old new
back_in p stands old new back = λ start talk call s none key. (s.0, back start talk call s.1 (subst (λ (q : Protocol). needs_by q start talk ≡ Nothing) s.0 none) (subst (λ (q : Protocol). IsKey (needs_by q start (call ∷ talk))) s.0 key))
