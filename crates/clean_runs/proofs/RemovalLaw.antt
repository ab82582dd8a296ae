-- The record of the login, of a removal behind it and of a restart is legal and clean.
use Rattle.std.proofs.Common.{◌≡◌, ℕ, zero, suc, List, [], ◌∷◌, ◌++◌, Bool, ◌||◌, None, Some, Option, true, false, if◌then◌else◌, inl, inr, refl, sym, ap, subst, ◌∙◌, arith, codes}
use Rattle.std.proofs.lemmas.Bool.{cases_Bool}
use Rattle.std.proofs.lemmas.Slice.Eq.{bytes_eq-Decides}
use Rattle.std.specs.List.{list_any}
use Rattle.std.specs.Str.{bytes_eq}
use Rattle.symbolic_runs.specs.Trees.{long_key}
use Rattle.wire_histories.specs.declared.step.Step.TheVariants.{Reload, Restart}
use Rattle.wire_histories.specs.Histories.{History, has_started, is_of}
use Rattle.wire_histories.specs.Legal.{EndsByRestarts, Spoken, Tables}
use Rattle.wire_histories.proofs.RestartLemmas.{unrestarted}
use Rattle.clean_runs.specs.Clean.{FormsStep, IsClean, LabelsStep, Reads, ReadsHolder, ReadsPassword, ReadsStep, ReadsTables, is_challenge, is_key, is_nonce, is_password}
use Rattle.clean_runs.specs.ExampleStatements.{AreFresh, RemovalIsLegal}
use Rattle.clean_runs.specs.KeyNames.{key_in, key_name, with_number}
use Rattle.clean_runs.specs.Login.{Secrets, labelling, login, reading, spoken, srv, tables, user_key}
use Rattle.clean_runs.specs.Removal.{removal, removal_setting, tables_without}
use Rattle.clean_runs.specs.Runs.{setting_of}
use Rattle.clean_runs.proofs.Forms as form
use Rattle.clean_runs.proofs.KeyNameLaws.{first_name, is_here, none_in}
use Rattle.clean_runs.proofs.LegalLogin.{conversations, legal, sessions}
use Rattle.clean_runs.proofs.LoginLaw.{entry, gives, holders, read_first, sevens, words}
use Rattle.clean_runs.proofs.LoginPlaces.{everywhere}
use Rattle.clean_runs.proofs.Readings.{any_two, apart}
use Rattle.clean_runs.proofs.Taken as taken

-- ---- the tables

abbrev both : Secrets → List Tables
both k = tables k ∷ tables_without k ∷ []

-- srv's key is the same in both, and so is its name
srv_named : (k : Secrets) → key_name (both k) 1 srv ≡ srv
srv_named k = ap (λ (b : Bool). with_number srv (if b then 0 else 1)) (is_here (tables k) srv (user_key k.srv_key k.srv_password) refl)

tables_read : (k : Secrets) → ReadsTables (reading k) (removal_setting k)
tables_read k zero name key is = subst (λ (n : List ℕ). Reads (reading k) (long_key n) key.des × ReadsPassword (reading k) n key.password) (sym (first_name (both k) name (key_in (both k) 0 name))) (read_first k name key is)
tables_read k (suc zero) name key is = elim (cases_Bool (bytes_eq name srv)) [
  | inl same ↦ (
      let here : Some (user_key k.srv_key k.srv_password) ≡ Some key = rw same at is in
      entry k (key_name (both k) 1 name) srv k.srv_key k.srv_password key (ap (key_name (both k) 1) ((bytes_eq-Decides name srv).0 same) ∙ srv_named k) (let one : user_key k.srv_key k.srv_password ≡ key = cc in one) (refl, refl))
  | inr other ↦ absurd (let nothing : None ≡ Some key = rw other at is in cc)
]
tables_read k (suc (suc number)) name key is = absurd (none_in number name key is)

-- ---- it is clean

clean : (k : Secrets) → AreFresh k → IsClean (removal k) (removal_setting k) (reading k) labelling
clean k f = record {
  short = omega arith;
  bytes = gives k f;
  sevens = sevens k;
  words = everywhere (ReadsStep (reading k)) (removal k) (tt, (tt, words k));
  tables = tables_read k;
  holders = everywhere (ReadsHolder (reading k) (removal_setting k) labelling) (removal k) (tt, (tt, holders k (spoken k) refl refl));
  nonces_apart = apart is_nonce (reading k) (any_two is_nonce (reading k) f.words);
  challenges_apart = apart is_challenge (reading k) (any_two is_challenge (reading k) (tt, tt));
  keys_apart = apart is_key (reading k) (any_two is_key (reading k) f.keys);
  passwords_apart = apart is_password (reading k) (any_two is_password (reading k) f.passwords);
  labels = everywhere (LabelsStep (reading k) (setting_of (removal_setting k) labelling (removal k)) labelling) (removal k) (tt, (tt, taken.all k (spoken k)));
  forms = everywhere (FormsStep (reading k) (setting_of (removal_setting k) labelling (removal k)) labelling) (removal k) (tt, (tt, form.all k (spoken k)));
}

-- ---- and legal

-- the restart is the last step, and the only one
only_restart : (k : Secrets) (name : List ℕ) (s : Spoken) (later past : History) → removal k ≡ later ++ Restart s.node ∷ past → has_started name past ≡ true → list_any (is_of name) later ≡ false
only_restart k name s [] past place started = refl
only_restart k name s (step ∷ later) past place started =
    let last : Restart (codes "a") ≡ step = cc in
    let rest : Reload ∷ login k ≡ later ++ Restart s.node ∷ past = cc in
    ap (λ x. is_of name x || list_any (is_of name) later) (sym last) ∙ unrestarted (Some s) name (Reload ∷ login k) refl later past rest started

ends : (k : Secrets) (name : List ℕ) (o : Option Spoken) → EndsByRestarts o name (removal k)
ends k name None = tt
ends k name (Some s) = λ later past place started. only_restart k name s later past place started

pub removal_is_legal : RemovalIsLegal
removal_is_legal k f =
    let alone = legal k f in
    record {
      legal = record {
        domain = alone.domain;
        tables = refl;
        conversations = conversations k f;
        restarts = λ name. ends k name (spoken k name);
        sessions = sessions k f (tables_without k ∷ []);
        numbered = (tt, (tt, alone.numbered));
      };
      clean = clean k f;
    }
