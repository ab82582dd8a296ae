-- A session among others.
use Rattle.std.proofs.Common.{◌≡◌, ℕ, List, [], Bool, true, false, cond, Option, Some, None, refl, sym, subst, ◌∙◌, inl, inr}
use Rattle.std.specs.Prelude.{is_some}
use Rattle.std.specs.Map.{lookup}
use Rattle.std.specs.Str.{bytes_eq}
use Rattle.std.specs.Cmp.Lexicographic.{bytes_decides}
use Rattle.std.proofs.lemmas.Bool.{cases_Bool, cond-true, cond-false, false≢true}
use Rattle.auth_server.specs.Answers.{Posed}
use Rattle.auth_server.specs.Standing.{Stands}
use Rattle.world_run.specs.declared.clients.Served.{Served}
use Rattle.world_run.specs.declared.clients.Served.TheVariants as served
use Rattle.world_run.specs.declared.live.Client.{Client}
use Rattle.world_run.specs.declared.live.Live.{Live}
use Rattle.world_run.specs.Sessions.{ClientIs, ClientsAre, IsClient, IsLive, IsNew, OneServes, ServesSo, View, answered, misasked}

-- under a name of which nothing is known stands nothing
new_there : (requests : List Posed) (over : Bool) (o : Option Client) → is_some o ≡ false → ClientIs requests over o → IsNew requests over
new_there requests over None none h = h
new_there requests over (Some c) none h = absurd (false≢true (sym none))

-- what begins there stands for no requests
pub begun : (requests : List Posed) (over : Bool) (live : Live) → Stands [] live.session → IsNew requests over → IsLive requests over live
begun requests over live stands new = record {
  stands = subst (λ (rs : List Posed). Stands rs live.session) (sym new.none) stands;
  goes_on = rw (new.goes_on, new.none) refl;
}

pub one_more : (v : View) (name : List ℕ) (one : Client) (old new : List (List ℕ × Client)) → is_some (lookup (bytes_eq name) old) ≡ false
    → ((requests : List Posed) (over : Bool) → IsNew requests over → IsClient requests over one)
    → ((other : List ℕ) → lookup (bytes_eq other) new ≡ cond (bytes_eq name other) (Some one) (lookup (bytes_eq other) old))
    → ClientsAre v old → ClientsAre v new
one_more v name one old new none begins others h = λ other. elim (cases_Bool (bytes_eq name other)) [
  | inl is ↦ subst (λ (o : Option Client). ClientIs (v.requests other) (v.misasked other) o) (sym (others other ∙ cond-true _ _ _ is))
      (begins (v.requests other) (v.misasked other)
      (new_there (v.requests other) (v.misasked other) (lookup (bytes_eq other) old) (subst (λ (x : List ℕ). is_some (lookup (bytes_eq x) old) ≡ false) ((bytes_decides name other).0 is) none) (h other)))
  | inr is ↦ subst (λ (o : Option Client). ClientIs (v.requests other) (v.misasked other) o) (sym (others other ∙ cond-false _ _ _ is)) (h other)
]

-- ---- a request

client_there : (v : View) (name : List ℕ) (one : Client) (clients : List (List ℕ × Client)) → lookup (bytes_eq name) clients ≡ Some one → ClientsAre v clients → IsClient (v.requests name) (v.misasked name) one
client_there v name one clients found h = subst (λ (o : Option Client). ClientIs (v.requests name) (v.misasked name) o) found (h name)

-- one changed, and the others are what they were
changed : (v w : View) (name : List ℕ) (now : Client) (old new : List (List ℕ × Client))
    → ((other : List ℕ) → lookup (bytes_eq other) new ≡ cond (bytes_eq name other) (Some now) (lookup (bytes_eq other) old))
    → IsClient (w.requests name) (w.misasked name) now
    → ((other : List ℕ) → bytes_eq name other ≡ false → w.requests other ≡ v.requests other)
    → ((other : List ℕ) → bytes_eq name other ≡ false → w.misasked other ≡ v.misasked other)
    → ClientsAre v old → ClientsAre w new
changed v w name now old new others here rs ms h = λ other. elim (cases_Bool (bytes_eq name other)) [
  | inl is ↦ subst (λ (o : Option Client). ClientIs (w.requests other) (w.misasked other) o) (sym (others other ∙ cond-true _ _ _ is))
      (subst (λ (x : List ℕ). IsClient (w.requests x) (w.misasked x) now) ((bytes_decides name other).0 is) here)
  | inr is ↦ subst (λ (o : Option Client). ClientIs (w.requests other) (w.misasked other) o) (sym (others other ∙ cond-false _ _ _ is))
      (subst (λ (q : List Posed). ClientIs q (w.misasked other) (lookup (bytes_eq other) old)) (sym (rs other is))
      (subst (λ (b : Bool). ClientIs (v.requests other) b (lookup (bytes_eq other) old)) (sym (ms other is)) (h other)))
]

its : (name : List ℕ) → bytes_eq name name ≡ true
its name = (bytes_decides name name).1 refl

pub serves_among : (v : View) (name : List ℕ) (asked : Posed) (s : Served) (before after : List ℕ) (one now : Client) (old new : List (List ℕ × Client))
    → ClientsAre v old → lookup (bytes_eq name) old ≡ Some one
    → ((other : List ℕ) → lookup (bytes_eq other) new ≡ cond (bytes_eq name other) (Some now) (lookup (bytes_eq other) old))
    → ((requests : List Posed) (over : Bool) → IsClient requests over one → OneServes requests over asked s before after now)
    → ServesSo v name asked s before after new
serves_among v name asked served.Refused before after one now old new h found others serves = serves (v.requests name) (v.misasked name) (client_there v name one old found h)
serves_among v name asked (served.Answered over) before after one now old new h found others serves =
    let s = serves (v.requests name) (v.misasked name) (client_there v name one old found h) in
    record {
      fits = s.fits;
      served = s.served;
      put = s.put;
      ends = s.ends;
      clients = changed v (answered name asked v) name now old new others
          (subst (λ (q : List Posed). IsClient q (v.misasked name) now) (sym (cond-true _ _ _ (its name))) s.client)
          (λ other is. cond-false _ _ _ is) (λ other is. refl) h;
    }
serves_among v name asked served.Ended before after one now old new h found others serves =
    let s = serves (v.requests name) (v.misasked name) (client_there v name one old found h) in
    record {
      fits = s.fits;
      served = s.served;
      clients = changed v (misasked name v) name now old new others
          (subst (λ (b : Bool). IsClient (v.requests name) b now) (sym (cond-true _ _ _ (its name))) s.client)
          (λ other is. refl) (λ other is. cond-false _ _ _ is) h;
    }
