-- What is shared, behind what is done with fids and connections.
use Rattle.std.proofs.Common.{◌≡◌, ℕ, List, [], ◌∷◌, ◌++◌, filter, Bool, true, false, cond, eqb, not, ◌&&◌, ◌||◌, ◌==◌, Option, Some, None, refl, sym, subst, ◌∙◌, inl, inr}
use Rattle.std.specs.Prelude.{IfSome, is_some}
use Rattle.std.proofs.lemmas.Bool.{cases_Bool, eq-eqb, ne_eqb, false≢true}
use Rattle.file_tree.specs.declared.tree.Node.{Node}
use Rattle.file_tree.specs.declared.tree.Node.TheVariants as n
use Rattle.file_tree.specs.declared.tree.FidState.{FidState}
use Rattle.file_tree.specs.Tree.{file}
use Rattle.file_tree.specs.Calls.{node_of}
use Rattle.agent_history.specs.Deeds.{Deed, OfFids, OfConnection, Attached, Opened, Listed, Browsed, Versioned, Clunked, Entered, Hung, fid_of, holder_of, names, was_hung, was_opened, without}
use Rattle.agent_history.specs.Conversations.{Speaker, opened_talks, speakers}
use Rattle.agent_history.specs.Histories.{entered}
use Rattle.agent_history.specs.Requests.{is_rpc, walking}
use Rattle.mailboxes.proofs.DeliveryLemmas as mail
use Rattle.agent_talks.proofs.DeedLemmas as logs
use Rattle.agent_requests.specs.declared.shared.Shared.{Shared}
use Rattle.agent_requests.specs.Sharing.{AllLive, AreLive, HoldersLive, Shares}

-- ---- requests on fids that give nothing up leave the rest alone

pub shares_attached : (done : List Deed) (conn fid : ℕ) (s : Shared) → Shares done s → Shares (OfFids conn (Attached fid) ∷ done) s
shares_attached done conn fid s h = record {
  ring = h.ring;
  holders = record { confirm = h.holders.confirm; needkey = h.holders.needkey; log = h.holders.log };
  mail = mail.attached_delivers done s.mailboxes conn fid h.mail;
  talks = logs.attached_logs done s.talks conn fid h.talks;
  live = h.live;
  held = h.held;
}

pub shares_walking : (done : List Deed) (conn newfid : ℕ) (end : Option Node) (s : Shared) → Shares done s → Shares (walking conn newfid end done) s
shares_walking done conn newfid None s h = h
shares_walking done conn newfid (Some node) s h = record {
  ring = h.ring;
  holders = record { confirm = h.holders.confirm; needkey = h.holders.needkey; log = h.holders.log };
  mail = mail.walked_delivers done s.mailboxes conn newfid node h.mail;
  talks = logs.walked_logs done s.talks conn newfid node h.talks;
  live = h.live;
  held = h.held;
}

pub shares_listed : (done : List Deed) (conn fid : ℕ) (s : Shared) → Shares done s → Shares (OfFids conn (Listed fid) ∷ done) s
shares_listed done conn fid s h = record {
  ring = h.ring;
  holders = record { confirm = h.holders.confirm; needkey = h.holders.needkey; log = h.holders.log };
  mail = mail.listed_delivers done s.mailboxes conn fid h.mail;
  talks = logs.listed_logs done s.talks conn fid h.talks;
  live = h.live;
  held = h.held;
}

pub shares_listing : (done : List Deed) (conn fid : ℕ) (first : Bool) (s : Shared) → Shares done s → Shares (cond first (OfFids conn (Listed fid) ∷ done) done) s
shares_listing done conn fid true s h = shares_listed done conn fid s h
shares_listing done conn fid false s h = h

pub shares_browsed : (done : List Deed) (conn fid next : ℕ) (s : Shared) → Shares done s → Shares (OfFids conn (Browsed fid next) ∷ done) s
shares_browsed done conn fid next s h = record {
  ring = h.ring;
  holders = record { confirm = h.holders.confirm; needkey = h.holders.needkey; log = h.holders.log };
  mail = mail.browsed_delivers done s.mailboxes conn fid next h.mail;
  talks = logs.browsed_logs done s.talks conn fid next h.talks;
  live = h.live;
  held = h.held;
}

-- a connection is opened
pub shares_entered : (done : List Deed) (conn : ℕ) (s : Shared) → Shares done s → Shares (entered conn done) s
shares_entered done conn s h = here (was_opened done conn)
  where
    here : (b : Bool) → Shares (cond b done (OfConnection conn Entered ∷ done)) s
    here true = h
    here false = record {
      ring = h.ring;
      holders = record { confirm = h.holders.confirm; needkey = h.holders.needkey; log = h.holders.log };
      mail = mail.entered_delivers done s.mailboxes conn h.mail;
      talks = logs.enter_logs done s.talks conn h.talks;
      live = h.live;
      held = h.held;
    }

-- a fid that is held names rpc where its file is rpc
pub names_rpc : (o : Option FidState) (node : Node) → is_some o ≡ true → node_of o ≡ node → names n.Rpc o ≡ is_rpc node
names_rpc None node held e = absurd cc
names_rpc (Some state) node held e = subst (λ (m : Node). names n.Rpc (Some state) ≡ is_rpc m) e (here state.node)
  where
    here : (m : Node) → ((file m).path == (file n.Rpc).path) ≡ is_rpc m
    here n.Root = refl
    here n.Factotum = refl
    here n.Rpc = refl
    here n.Ctl = refl
    here n.Confirm = refl
    here n.Needkey = refl
    here n.Proto = refl
    here n.Log = refl

-- ---- who has conversations open is live

kept_live : (hung : ℕ → Bool) (keep : Speaker → Bool) (xs : List Speaker) → AllLive hung xs → AllLive hung (filter keep xs)
kept_live hung keep [] h = tt
kept_live hung keep (x ∷ xs) h = here (keep x) (kept_live hung keep xs h.1)
  where
    here : (b : Bool) → AllLive hung (filter keep xs) → AllLive hung (cond b (x ∷ filter keep xs) (filter keep xs))
    here true rest = (h.0, rest)
    here false rest = rest

one_more_live : (hung : ℕ → Bool) (s : Speaker) (xs : List Speaker) → hung s.conn ≡ false → AllLive hung xs → AllLive hung (xs ++ s ∷ [])
one_more_live hung s [] live h = (live, tt)
one_more_live hung s (x ∷ xs) live h = (h.0, one_more_live hung s xs live h.1)

eqb_not : (a b : ℕ) → eqb b a ≡ false → eqb a b ≡ false
eqb_not a b e = ne_eqb a b (λ same. false≢true (sym e ∙ eq-eqb b a (sym same)))

left_live : (hung : ℕ → Bool) (conn : ℕ) (xs : List Speaker) → AllLive hung xs → AllLive (λ q. eqb conn q || hung q) (filter (λ s. not (eqb s.conn conn)) xs)
left_live hung conn [] h = tt
left_live hung conn (x ∷ xs) h = elim (cases_Bool (eqb x.conn conn)) [
  | inl is ↦ rw is (left_live hung conn xs h.1)
  | inr is ↦ rw is ((rw (eqb_not conn x.conn is, h.0) refl, left_live hung conn xs h.1))
]

pub live_opened : (done : List Deed) (conn fid mode : ℕ) → was_hung done conn ≡ false → AreLive done → AreLive (OfFids conn (Opened fid mode) ∷ done)
live_opened done conn fid mode live h = here (names n.Rpc (fid_of done conn fid))
  where
    s : Speaker
    s = record { conv = opened_talks done; conn = conn; fid = fid }

    here : (b : Bool) → AllLive (λ q. was_hung done q) (cond b (speakers done ++ s ∷ []) (speakers done))
    here true = one_more_live (λ q. was_hung done q) s (speakers done) live h
    here false = h

pub live_clunked : (done : List Deed) (conn fid : ℕ) → AreLive done → AreLive (OfFids conn (Clunked fid) ∷ done)
live_clunked done conn fid h = kept_live (λ q. was_hung done q) (λ s. not (eqb s.conn conn && eqb s.fid fid)) (speakers done) h

pub live_versioned : (done : List Deed) (conn : ℕ) (msize : Option ℕ) → AreLive done → AreLive (OfFids conn (Versioned msize) ∷ done)
live_versioned done conn msize h = kept_live (λ q. was_hung done q) (λ s. not (eqb s.conn conn)) (speakers done) h

pub live_hung : (done : List Deed) (conn : ℕ) → AreLive done → AreLive (OfConnection conn Hung ∷ done)
live_hung done conn h = left_live (λ q. was_hung done q) conn (speakers done) h

-- ---- who has a file open alone is live

-- one of a live connection, if there is one
abbrev OneLive : (ℕ → Bool) → Option (ℕ × ℕ) → Type 0
OneLive hung o = IfSome o (λ holder. hung holder.0 ≡ false)

kept_one : (hung : ℕ → Bool) (leaves : ℕ × ℕ → Bool) (o : Option (ℕ × ℕ)) → OneLive hung o → OneLive hung (without leaves o)
kept_one hung leaves None h = h
kept_one hung leaves (Some holder) h = here (leaves holder)
  where
    here : (b : Bool) → OneLive hung (cond b None (Some holder))
    here true = tt
    here false = h

left_one : (hung : ℕ → Bool) (conn : ℕ) (o : Option (ℕ × ℕ)) → OneLive hung o → OneLive (λ q. eqb conn q || hung q) (without (λ holder. eqb holder.0 conn) o)
left_one hung conn None h = h
left_one hung conn (Some holder) h = elim (cases_Bool (eqb holder.0 conn)) [
  | inl is ↦ rw is tt
  | inr is ↦ rw is (rw (eqb_not conn holder.0 is, h) refl)
]

pub held_opened : (done : List Deed) (conn fid mode : ℕ) → was_hung done conn ≡ false → HoldersLive done → HoldersLive (OfFids conn (Opened fid mode) ∷ done)
held_opened done conn fid mode live h node = here (names node (fid_of done conn fid))
  where
    here : (b : Bool) → OneLive (λ q. was_hung done q) (cond b (Some (conn, fid)) (holder_of done node))
    here true = live
    here false = h node

pub held_clunked : (done : List Deed) (conn fid : ℕ) → HoldersLive done → HoldersLive (OfFids conn (Clunked fid) ∷ done)
held_clunked done conn fid h node = kept_one (λ q. was_hung done q) (λ holder. eqb holder.0 conn && eqb holder.1 fid) (holder_of done node) (h node)

pub held_versioned : (done : List Deed) (conn : ℕ) (msize : Option ℕ) → HoldersLive done → HoldersLive (OfFids conn (Versioned msize) ∷ done)
held_versioned done conn msize h node = kept_one (λ q. was_hung done q) (λ holder. eqb holder.0 conn) (holder_of done node) (h node)

pub held_hung : (done : List Deed) (conn : ℕ) → HoldersLive done → HoldersLive (OfConnection conn Hung ∷ done)
held_hung done conn h node = left_one (λ q. was_hung done q) conn (holder_of done node) (h node)
