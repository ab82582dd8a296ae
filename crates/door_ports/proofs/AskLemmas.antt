-- What is exchanged for a request of a port, put together exchange by exchange.
use Rattle.std.proofs.Common.{◌≡◌, ℕ, List, [], ◌∷◌, Bool, true, false, refl, ap, ◌∙◌}
use Rattle.std.specs.Prelude.{Some, codes}
use Rattle.door_ports.specs.declared.reply.Reply.{Reply}
use Rattle.door_ports.specs.declared.reply.Reply.TheVariants.{Gone, Silent, Refused, Read, Done}
use Rattle.door_ports.specs.Asks.{Met, Sent}
use Rattle.door_ports.specs.Exchanges.{Exchange, IsClunk, IsPreparing, IsTold, IsTry, agrees, attaches, clunks, exchange, is_done, no_word, opens, reads, walks, writes}
use Rattle.door_ports.specs.Ports.{Did}

module _ {A : Type 0} (stands : List Exchange → A → Type 0) where
  pub prepared_did : (conn : ℕ) (done : List Exchange) (w x y z : List ℕ) (p q r s : Reply) (agent : A) → w ≡ agrees → x ≡ attaches → y ≡ walks 1 (codes "ctl") → z ≡ opens 1
      → stands (exchange conn z no_word s ∷ exchange conn y no_word r ∷ exchange conn x no_word q ∷ exchange conn w no_word p ∷ done) agent → Did stands (IsPreparing conn) done agent
  prepared_did conn done w x y z p q r s agent e f g h leaves = record {
    more = exchange conn z no_word s ∷ exchange conn y no_word r ∷ exchange conn x no_word q ∷ exchange conn w no_word p ∷ [];
    are = ((refl, e, refl), (refl, f, refl), (refl, g, refl), (refl, h, refl));
    leaves = leaves;
  }

  pub clunked_did : (conn fid : ℕ) (done : List Exchange) (c : List ℕ) (agent : A) → c ≡ clunks fid → Sent stands conn c done agent → Did stands (IsClunk conn fid) done agent
  clunked_did conn fid done c agent e s = record { more = exchange conn c no_word s.reply ∷ []; are = (refl, e, refl); leaves = s.leaves }

  -- a fid that isn't let to walk, one that is let to open, and one that isn't
  pub not_walked : (conn fid : ℕ) (done : List Exchange) (w : List ℕ) (let_it : Bool) (agent : A) → let_it ≡ false → w ≡ walks fid (codes "rpc") → Met stands conn w let_it done agent → Did stands (IsTry conn fid false) done agent
  not_walked conn fid done w let_it agent not_so e m = record { more = exchange conn w no_word m.reply ∷ []; are = ((refl, e, refl), m.is ∙ ap Some not_so); leaves = m.leaves }

  pub was_opened : (conn fid : ℕ) (done : List Exchange) (w o : List ℕ) (walked opened : Bool) (middle agent : A) → walked ≡ true → opened ≡ true → w ≡ walks fid (codes "rpc") → o ≡ opens fid
      → (m : Met stands conn w walked done middle) → Met stands conn o opened (exchange conn w no_word m.reply ∷ done) agent → Did stands (IsTry conn fid true) done agent
  was_opened conn fid done w o walked opened middle agent so also e f m n = record {
    more = exchange conn o no_word n.reply ∷ exchange conn w no_word m.reply ∷ [];
    are = (((refl, e, refl), m.is ∙ ap Some so), ((refl, f, refl), n.is ∙ ap Some also));
    leaves = n.leaves;
  }

  pub not_opened : (conn fid : ℕ) (done : List Exchange) (w o c : List ℕ) (walked opened : Bool) (middle last agent : A) → walked ≡ true → opened ≡ false → w ≡ walks fid (codes "rpc") → o ≡ opens fid → c ≡ clunks fid
      → (m : Met stands conn w walked done middle) → (n : Met stands conn o opened (exchange conn w no_word m.reply ∷ done) last) → Sent stands conn c (exchange conn o no_word n.reply ∷ exchange conn w no_word m.reply ∷ done) agent
      → Did stands (IsTry conn fid false) done agent
  not_opened conn fid done w o c walked opened middle last agent so not_so e f g m n s = record {
    more = exchange conn c no_word s.reply ∷ exchange conn o no_word n.reply ∷ exchange conn w no_word m.reply ∷ [];
    are = (((refl, e, refl), m.is ∙ ap Some so), ((refl, f, refl), n.is ∙ ap Some not_so), (refl, g, refl));
    leaves = s.leaves;
  }

  pub told_early : (conn fid : ℕ) (request word : List ℕ) (done : List Exchange) (reply : Reply) (agent : A) → (reply ≡ Done → ⊥) → stands (exchange conn (writes fid request) no_word reply ∷ done) agent
      → Did stands (IsTold conn fid request word reply) done agent
  told_early conn fid request word done reply agent other leaves = record {
    more = exchange conn (writes fid request) no_word reply ∷ [];
    are = ((refl, refl, refl), not_done reply other, refl);
    leaves = leaves;
  }
    where
      not_done : (reply : Reply) → (reply ≡ Done → ⊥) → is_done reply ≡ false
      not_done Gone no_one = refl
      not_done Silent no_one = refl
      not_done (Refused text) no_one = refl
      not_done (Read content) no_one = refl
      not_done Done no_one = absurd (no_one refl)

  pub told_late : (conn fid : ℕ) (request word : List ℕ) (done : List Exchange) (first reply : Reply) (agent : A) → first ≡ Done → stands (exchange conn (reads fid) word reply ∷ exchange conn (writes fid request) no_word first ∷ done) agent
      → Did stands (IsTold conn fid request word reply) done agent
  told_late conn fid request word done first reply agent is leaves = record {
    more = exchange conn (reads fid) word reply ∷ exchange conn (writes fid request) no_word first ∷ [];
    are = ((refl, refl, refl), ap is_done is, (refl, refl, refl), refl);
    leaves = leaves;
  }
