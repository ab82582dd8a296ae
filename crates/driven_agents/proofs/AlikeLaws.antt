-- What leaves an agent calm by changing nothing of what calm means, and a request that does no more.
use Rattle.std.proofs.Common.{◌≡◌, ℕ, List, [], ◌∷◌, ◌++◌, Bool, true, false, cond, eqb, ltb, ◌&&◌, Option, Some, None, refl, sym, ap, subst, ◌∙◌}
use Rattle.std.specs.Prelude.{Result, Ok, Err, find}
use Rattle.std.specs.List.{filter_map, list_all}
use Rattle.nine.specs.declared.message.RMsg.{RMsg}
use Rattle.nine.specs.declared.message.RBody.{RBody}
use Rattle.nine.specs.declared.message.TBody.{TBody}
use Rattle.talks.specs.Standings.{OnServer}
use Rattle.agent_history.specs.Deeds.{Deed, Answered, OfReplies, Swept, fid_of, msize_of, was_hung, was_opened}
use Rattle.agent_history.specs.Replies.{has_settled, is_unsettled, reply_in, swept, waits}
use Rattle.agent_history.specs.Conversations.{Speaker, opened_talks, questions, speakers, standing_of}
use Rattle.agent_history.specs.Requests.{Call, after, after_granted, body_for, replied, reply_of}
use Rattle.agent_laws.specs.Laws.{gives_content}
use Rattle.driven_agents.specs.Quiet.{NamesNoLines}
use Rattle.driven_agents.proofs.EditGrows.{OkIs}
use Rattle.driven_agents.specs.Idle.{AreRead, IsCalm}
use Rattle.driven_agents.proofs.LeftLaws.{own_reply, swept_replies}
use Rattle.driven_agents.proofs.IdleStillLaws.{calm_of, still_answered, still_of}

-- the same of both
pub record Alike (done later : List Deed) : Type 0 where
  pub names : NamesNoLines later
  pub entered : was_opened later 0 ≡ was_opened done 0
  pub there : was_hung later 0 ≡ was_hung done 0
  pub msize : msize_of later 0 ≡ msize_of done 0
  pub root : fid_of later 0 0 ≡ fid_of done 0 0
  pub speaking : speakers later ≡ speakers done
  pub opened : opened_talks later ≡ opened_talks done
  pub waiting : waits later 0 ≡ waits done 0
  pub settled : has_settled later ≡ has_settled done
  pub asked : questions later ≡ questions done
  -- no more conversations wait for the authentication server
  pub phases : (conv : ℕ) → (standing_of later conv).phase ≡ OnServer → (standing_of done conv).phase ≡ OnServer

pub alike_itself : (done : List Deed) → NamesNoLines done → Alike done done
alike_itself done names = record { names = names; entered = refl; there = refl; msize = refl; root = refl; speaking = refl; opened = refl; waiting = refl; settled = refl; asked = refl; phases = λ conv is. is }

read_alike : (done later : List Deed) → Alike done later → (ss : List Speaker) → AreRead done ss → AreRead later ss
read_alike done later a [] read = tt
read_alike done later a (s ∷ ss) read =
    (λ is. ap (find (λ w. eqb w.fid s.fid && is_unsettled w)) a.waiting ∙ read.0 (a.phases s.conv is), read_alike done later a ss read.1)

pub alike_calm : (done later : List Deed) → Alike done later → IsCalm done → IsCalm later
alike_calm done later a c = record {
  names = a.names;
  entered = a.entered ∙ c.entered;
  there = a.there ∙ c.there;
  msize = a.msize ∙ c.msize;
  alone = ap (list_all (λ s. eqb s.conn 0)) a.speaking ∙ c.alone;
  root = a.root ∙ c.root;
  small = ap (list_all (λ s. ltb s.fid 65535)) a.speaking ∙ c.small;
  tagged = ap (list_all (λ w. eqb w.tag w.fid)) a.waiting ∙ c.tagged;
  counted = ap (list_all (λ w. eqb w.count 8192)) a.waiting ∙ c.counted;
  settled = a.settled ∙ c.settled;
  read = subst (AreRead later) (sym a.speaking) (read_alike done later a (speakers done) c.read);
}

-- ---- a reply, and a sweep that finds nothing

pub read_answered : (at tag : ℕ) (body : RBody) (done : List Deed) (ss : List Speaker) → AreRead done ss → AreRead (OfReplies at (Answered tag body) ∷ done) ss
read_answered at tag body done [] read = tt
read_answered at tag body done (s ∷ ss) read = (read.0, read_answered at tag body done ss read.1)

pub calm_replied : (call : Call) (o : Option RBody) (done : List Deed) → IsCalm done → IsCalm (replied call o done)
calm_replied call None done c = c
calm_replied call (Some body) done c = calm_of (OfReplies call.conn (Answered call.tag body) ∷ done) (still_answered call.conn call.tag body done (still_of done c)) c.settled (read_answered call.conn call.tag body done (speakers done) c.read)

calm_unswept : (b : Bool) (done : List Deed) → b ≡ false → IsCalm done → IsCalm (cond b (Swept ∷ done) done)
calm_unswept true done none c = absurd cc
calm_unswept false done none c = c

pub calm_answered : (call : Call) (o : Option RBody) (done : List Deed) → IsCalm done → IsCalm (swept (replied call o done))
calm_answered call o done c = let r = calm_replied call o done c in calm_unswept (has_settled (replied call o done)) (replied call o done) r.settled r

-- what neither of them changes
pub answered_same : {X : Type 0} (f : List Deed → X) → ((at tag : ℕ) (body : RBody) (d : List Deed) → f (OfReplies at (Answered tag body) ∷ d) ≡ f d) → ((d : List Deed) → f (Swept ∷ d) ≡ f d) → (call : Call) (o : Option RBody) (done : List Deed) → f (swept (replied call o done)) ≡ f done
answered_same {X} f one other call o done = by_sweep (has_settled (replied call o done)) ∙ by_reply o
  where
    by_sweep : (b : Bool) → f (cond b (Swept ∷ replied call o done) (replied call o done)) ≡ f (replied call o done)
    by_sweep true = other (replied call o done)
    by_sweep false = refl

    by_reply : (o : Option RBody) → f (replied call o done) ≡ f done
    by_reply None = refl
    by_reply (Some body) = one call.conn call.tag body done

-- ---- what is granted

pub granted_keeps : (P : List Deed → Type 0) (done : List Deed) (call : Call) (g : Result TBody (List ℕ)) → P done → OkIs (λ body. P (after done call body)) g → P (after_granted done call g)
granted_keeps P done call (Err text) p is = p
granted_keeps P done call (Ok body) p is = is

-- ---- replies that give nothing that was read

abbrev pub GivesNone : List RMsg → Type 0
GivesNone [] = Unit {0}
GivesNone (m ∷ more) = (gives_content m.body ≡ false) × GivesNone more

abbrev pub IsBare : Option RBody → Type 0
IsBare None = Unit {0}
IsBare (Some body) = gives_content body ≡ false

pub body_bare : (done : List Deed) (call : Call) (g : Result TBody (List ℕ)) → OkIs (λ body. IsBare (reply_of done call body)) g → IsBare (body_for done call g)
body_bare done call (Err text) is = refl
body_bare done call (Ok body) is = is

pub own_gives_none : (call : Call) (o : Option RBody) (rest : List RMsg) → IsBare o → GivesNone rest → GivesNone (own_reply call o ++ rest)
own_gives_none call None rest is none = none
own_gives_none call (Some body) rest is none = (is, none)

pub none_swept : (done : List Deed) → has_settled done ≡ false → GivesNone (swept_replies done)
none_swept done none = subst GivesNone (ap (λ b. cond b (filter_map reply_in (waits done 0)) []) (sym none)) tt
