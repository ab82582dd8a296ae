-- A frame of a request whose fields fit is read as that request, and as no other.
use Rattle.std.proofs.Common.{◌≡◌, ℕ, ◌<◌, ◌^◌, List, Option, Some, None, refl, sym, ap, subst, ◌∙◌}
use Rattle.std.specs.Prelude.{Result, Ok, Err}
use Rattle.nine.specs.declared.message.TMsg.{TMsg}
use Rattle.nine.specs.declared.message.TBody.{TBody}
use Rattle.nine.specs.Messages.{t_fits, t_frame}
use Rattle.nine.specs.Decoding.{request_of, t_reading}
use Rattle.nine.proofs.RequestLaws.{request_again}
use Rattle.agent_history.specs.Deeds.{Deed}
use Rattle.agent_history.specs.Requests.{Call, granted}
use Rattle.driven_agents.proofs.EditGrows.{OkIs, granted_so}

pub read_again : (asked : TMsg) → asked.tag < 2 ^ 16 → t_fits asked.body → request_of (t_frame asked) ≡ Some asked
unfolding request_of
read_again asked small fits = as_read (t_reading (t_frame asked)) asked (request_again (t_frame asked) asked (record { spelling = refl; tag = small; fields = fits }))
  where
    as_read : (r : Result TMsg ℕ) (m : TMsg) → r ≡ Ok m → (elim r as (λ x. Option TMsg) [ Ok m ↦ Some m | Err at ↦ None ]) ≡ Some m
    as_read (Ok other) m e = let same : other ≡ m = cc in ap (λ m. Some m) same
    as_read (Err at) m e = absurd cc

read_only : (asked m : TMsg) → asked.tag < 2 ^ 16 → t_fits asked.body → request_of (t_frame asked) ≡ Some m → m.body ≡ asked.body
read_only asked m small fits is = let same : m ≡ asked = cc (sym is ∙ read_again asked small fits) in ap (λ m. m.body) same

-- what holds of it holds of what is granted
pub granted_only : (P : TBody → Type 0) (done : List Deed) (call : Call) (asked : TMsg) → asked.tag < 2 ^ 16 → t_fits asked.body → P asked.body → OkIs P (granted done call (t_frame asked))
granted_only P done call asked small fits p = granted_so P done call (t_frame asked) (λ m is. subst P (sym (read_only asked m small fits is)) p)
