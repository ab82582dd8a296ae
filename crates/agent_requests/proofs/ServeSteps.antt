-- A read that waits for a line is told what it finds.
use Rattle.std.proofs.Common.{◌≡◌, ◌-◌, ℕ, zero, suc, List, ◌∷◌, false, Option, Some, None, refl, sym, ap, subst, ◌∙◌, arith}
use Rattle.std.specs.Prelude.{option_map}
use Rattle.nine.specs.declared.message.RBody.{RBody}
use Rattle.nine.specs.declared.message.RBody.TheVariants as r
use Rattle.nine.specs.Messages.{r_frame}
use Rattle.file_tree.specs.declared.tree.Node.{Node}
use Rattle.side_files.specs.Lines.{Found, Nothing, TooLong, First, found}
use Rattle.agent_history.specs.Deeds.{Deed, OfReplies, Settled, was_hung}
use Rattle.agent_history.specs.Replies.{Wait, reader, too_small}
use Rattle.agent_history.specs.SideFiles.{line_read, lines_in, serve_first, serve_read, serve_reads}
use Rattle.mailboxes.specs.declared.mailboxes.Mailboxes.{Mailboxes}
use Rattle.mailboxes.specs.declared.reply.Reply.{Reply}
use Rattle.mailboxes.specs.declared.wait.Read.{Read}
use Rattle.mailboxes.specs.Kept.{reply_bytes}
use Rattle.mailboxes.specs.Deliveries.{Delivers, read_of, under}
use Rattle.agent_requests.specs.declared.shared.Shared.{Shared}
use Rattle.agent_requests.specs.Sharing.{Shares}
use Rattle.agent_requests.specs.Serving.{LineTold, Serves}
use Rattle.agent_requests.proofs.OwnDeeds.{read_talks, served_first_all}
use Rattle.agent_requests.proofs.ShareLemmas.{hung_all, replied_shares, with_mail}

-- what settling a read that waits does to mailboxes
abbrev pub Settles : Mailboxes → Mailboxes → ℕ → ℕ → Reply → Type 0
Settles old new conn tag reply = (done : List Deed) (body : RBody) → was_hung done conn ≡ false → reply_bytes reply ≡ r_frame (under tag body) → Delivers done old → Delivers (OfReplies conn (Settled tag body) ∷ done) new

-- a read that waits, by what is known of it
pub found_wait : (o : Option Wait) (read : Read) → option_map read_of o ≡ Some read → (wait : Wait) × (o ≡ Some wait) × (read_of wait ≡ read)
found_wait None read e = absurd cc
found_wait (Some wait) read e = (wait, refl, cc)

pub no_wait : (o : Option Wait) → option_map read_of o ≡ None → o ≡ None
no_wait None e = refl
no_wait (Some wait) e = absurd cc

-- it is settled
pub settled_shares : (done : List Deed) (s : Shared) (m : Mailboxes) (conn tag : ℕ) (body : RBody) (reply : Reply) → was_hung done conn ≡ false → reply_bytes reply ≡ r_frame (under tag body) → Settles s.mailboxes m conn tag reply → Shares done s → Shares (OfReplies conn (Settled tag body) ∷ done) (with_mail s m)
settled_shares done s m conn tag body reply live said settles h = replied_shares done s m conn (Settled tag body) (settles done body live said h.mail) h

-- ---- a line

no_reply : (reply : Reply) → Some reply ≡ None → ⊥
no_reply reply e = absurd cc

some_told : (node : Node) (conn tag : ℕ) (f : Found) (done : List Deed) (s : Shared) (m : Mailboxes) (reply : Reply) → was_hung done conn ≡ false → LineTold node tag f done s (Some reply) → Settles s.mailboxes m conn tag reply → Shares (serve_read node conn tag f done) (with_mail s m)
some_told node conn tag Nothing done s m reply live told settles = absurd (no_reply reply told.0)
some_told node conn tag TooLong done s m reply live told settles = settled_shares done s m conn tag too_small reply live told.0 settles told.1
some_told node conn tag (First line) done s m reply live told settles =
    settled_shares (line_read node done) s m conn tag (r.Read line) reply (read_talks (λ now. was_hung now conn ≡ false) (hung_all conn).talks node done live) told.0 settles told.1

abbrev Told : Node → Read → List Deed → Shared → Option Reply → Type 0
Told node read done s o = LineTold node read.tag (found read.count (lines_in done node)) done s o

-- the read that waits was told something
pub served_some : (done : List Deed) (node : Node) (conn : ℕ) (o : Option Wait) (read : Read) (s : Shared) (m : Mailboxes) (reply : Reply) → was_hung done conn ≡ false → option_map read_of o ≡ Some read → Told node read done s (Some reply) → Settles s.mailboxes m conn read.tag reply → Shares (serve_first node conn o done) (with_mail s m)
served_some done node conn o read s m reply live is told settles =
    let f = found_wait o read is in
    let wait : Wait = f.0 in
    rw f.1 (some_told node conn wait.tag (found wait.count (lines_in done node)) done s m reply live
    (subst (λ (r : Read). Told node r done s (Some reply)) (sym f.2) told)
    (subst (λ (r : Read). Settles s.mailboxes m conn r.tag reply) (sym f.2) settles))

-- ---- one read after the other

-- where the first isn't told anything, none is
stopped : (most : ℕ) (node : Node) (conn fid : ℕ) (done : List Deed) → serve_first node conn (reader done conn fid) done ≡ done → serve_reads most node conn fid done ≡ done
stopped zero node conn fid done e = refl
stopped (suc most) node conn fid done e = ap (λ (now : List Deed). serve_reads most node conn fid now) e ∙ stopped most node conn fid done e

pub reads_stop : (most : ℕ) (node : Node) (conn fid : ℕ) (done : List Deed) (s : Shared) → Serves false done (serve_first node conn (reader done conn fid) done) s → Shares (serve_reads most node conn fid done) s
reads_stop most node conn fid done s h = subst (λ (now : List Deed). Shares now s) (sym (stopped most node conn fid done h.0)) h.1

one_less : (most : ℕ) → (most ≡ 0 → ⊥) → most ≡ suc (most - 1)
one_less zero ne = absurd (ne refl)
one_less (suc most) ne = omega arith

pub reads_go_on : (most : ℕ) (node : Node) (conn fid : ℕ) (done : List Deed) (s u : Shared) → (most ≡ 0 → ⊥) → was_hung done conn ≡ false → Shares (serve_first node conn (reader done conn fid) done) s
    → ((now : List Deed) → was_hung now conn ≡ false → Shares now s → Shares (serve_reads (most - 1) node conn fid now) u) → Shares (serve_reads most node conn fid done) u
reads_go_on most node conn fid done s u ne live h more =
    subst (λ (k : ℕ). Shares (serve_reads k node conn fid done) u) (sym (one_less most ne))
    (more (serve_first node conn (reader done conn fid) done) (served_first_all (λ now. was_hung now conn ≡ false) (hung_all conn) node conn fid done live) h)
