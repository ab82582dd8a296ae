-- How the connections that came and the jobs taken add up, one call after the other.
use Rattle.std.proofs.lemmas.List.{map-append}
use Rattle.std.proofs.Common.{◌≡◌, ℕ, ◌≤◌, arith, List, [], ◌∷◌, ◌++◌, None, Some, Ok, Err, refl, sym, ap, ◌∙◌, subst, append_assoc, append-nil}
use Rattle.std.specs.Prelude.{Option}
use Rattle.auth_server.specs.declared.listen.ListenEnd.TheVariants as e
use Rattle.auth_server.specs.Standing.{Server}
use Rattle.wire_streams.specs.Causes.{Rose}
use Rattle.wire_streams.specs.Spawning.{Gains}
use Rattle.wire_streams.specs.Listening.{Accepts}
use Rattle.auth_server.specs.Clients.{Came, Client, Going, Listens, client_of}

-- Nothing came.
pub Came-nil : {C : Type 0} → (a : Option (List C)) → Came a a []
Came-nil None = tt
Came-nil (Some x) = refl

-- One more came.
pub Came-more : {C : Type 0} → (a b c : Option (List C)) (xs : List C) (x : C) → Came a b xs → Accepts b c (Ok x) → Came a c (xs ++ x ∷ [])
Came-more None b c xs x p q = tt
Came-more (Some a) None c xs x p q = absurd p
Came-more (Some a) (Some b) None xs x p q = absurd q
Came-more (Some a) (Some b) (Some c) xs x p q = p ∙ ap (λ l. xs ++ l) q ∙ sym (append_assoc xs (x ∷ []) c)

-- None came, since accepting failed.
pub Came-none : {C : Type 0} → {f : _} → (a b c : Option (List C)) (xs : List C) → Came a b xs → Accepts b c (Err f) → Came a c (xs ++ [])
Came-none None b c xs p q = tt
Came-none (Some a) None c xs p q = absurd p
Came-none (Some a) (Some b) None xs p q = absurd q
Came-none (Some a) (Some b) (Some c) xs p q = p ∙ ap (λ l. l ++ b) (sym (append-nil xs)) ∙ ap (λ l. (xs ++ []) ++ l) (sym q)

Came-same : {C : Type 0} → (a b : Option (List C)) (xs : List C) → Came a b xs → Came a b (xs ++ [])
Came-same a b xs p = subst (Came a b) (sym (append-nil xs)) p

-- Jobs were taken, and then others.
pub Gains-trans : {J : Type 0} → (a b c : Option (List J)) (xs ys : List J) → Gains a b xs → Gains b c ys → Gains a c (xs ++ ys)
Gains-trans a b None xs ys p q = tt
Gains-trans a None (Some z) xs ys p q = absurd q
Gains-trans None (Some y) (Some z) xs ys p q = absurd p
Gains-trans (Some x) (Some y) (Some z) xs ys p q = q ∙ ap (λ l. l ++ ys) p ∙ append_assoc x xs ys

pub Gains-nil : {J : Type 0} → (a : Option (List J)) → Gains a a []
Gains-nil None = tt
Gains-nil (Some x) = sym (append-nil x)

-- Nothing was accepted yet.
pub begun : {I O : Type 0} → (core : Server) (came : Option (List (I × O))) (taken : Option (List (Client I O))) → Going core came came taken taken
begun core came taken = record { accepted = []; arrived = Came-nil came; jobs = Gains-nil taken }

-- One more connection came, and its client was given to a thread.
pub one_more : {I O : Type 0} → (core : Server) (came left later : Option (List (I × O))) (taken now then_taken : Option (List (Client I O))) (x : I × O) (job : Client I O)
    → job ≡ client_of core x → Going core came left taken now → Accepts left later (Ok x) → Gains now then_taken (job ∷ []) → Going core came later taken then_taken
one_more core came left later taken now then_taken x job e g a s = record {
  accepted = g.accepted ++ x ∷ [];
  arrived = Came-more came left later g.accepted x g.arrived a;
  jobs = subst (Gains taken then_taken) (sym (map-append (client_of core) g.accepted (x ∷ [])))
      (Gains-trans taken now then_taken _ _ g.jobs (subst (λ (j : Client _ _). Gains now then_taken (j ∷ [])) e s));
}

-- Accepting failed.
pub no_more : {I O : Type 0} → {f : _} → (core : Server) (came left later : Option (List (I × O))) (taken now : Option (List (Client I O)))
    → Going core came left taken now → Accepts left later (Err f) → Listens core e.ListenFault came later taken now
no_more core came left later taken now g a = record {
  accepted = g.accepted;
  lost = [];
  arrived = Came-none came left later g.accepted g.arrived a;
  jobs = g.jobs;
  few = refl;
}

-- Memory ran out.
pub no_room : {I O : Type 0} → (core : Server) (came left : Option (List (I × O))) (taken now : Option (List (Client I O)))
    → Going core came left taken now → Listens core e.NoMemory came left taken now
no_room core came left taken now g = record {
  accepted = g.accepted;
  lost = [];
  arrived = Came-same came left g.accepted g.arrived;
  jobs = g.jobs;
  few = refl;
}

-- A client that was accepted got no thread.
pub no_thread : {I O : Type 0} → (core : Server) (came left later : Option (List (I × O))) (taken now then_taken : Option (List (Client I O))) (x : I × O)
    → Going core came left taken now → Accepts left later (Ok x) → Gains now then_taken [] → Listens core e.NoThread came later taken then_taken
no_thread core came left later taken now then_taken x g a s = record {
  accepted = g.accepted;
  lost = x ∷ [];
  arrived = Came-more came left later g.accepted x g.arrived a;
  jobs = subst (Gains taken then_taken) (append-nil _) (Gains-trans taken now then_taken _ _ g.jobs s);
  few = refl;
}

-- The count rose since a later moment, so since an earlier one.
pub rose_since : (a b c : ℕ) → a ≤ b → Rose b c → Rose a c
rose_since a b c h r = omega (arith, h, r)
