-- What is taken in the login is spelled by its label, which was given right before it, or is bytes that anybody may know.
use Rattle.std.proofs.Common.{ℕ, List, [], ◌∷◌, ◌++◌, append-nil, Ok, refl, ap, Option}
use Rattle.std.specs.Str.{is_utf8, chars}
use lib.Utf8.{encode}
use Rattle.wire_base.specs.Texts.{is_text}
use Rattle.sealing.specs.Fields.{before_nul, name_in}
use Rattle.sealing.specs.Request.{request_fields, request_of}
use Rattle.auth_tables.specs.Speaks.{may_speak}
use Rattle.symbolic_runs.specs.Derivations.{by_knowing, in_public}
use Rattle.wire_histories.specs.Legal.{Spoken}
use Rattle.clean_runs.specs.Clean.{AtEachPlace, LabelsStep}
use Rattle.clean_runs.specs.Runs.{setting_of}
use Rattle.clean_runs.specs.Login.{Secrets, ann, choice_bytes, labelling, login, login_setting, name_28, offer_bytes, proof_bytes, reading, srv, ticket_bytes}
use Rattle.clean_runs.proofs.LoginPlaces.{Everywhere, everywhere}
use Rattle.clean_runs.proofs.Readings.{small}
use Rattle.wire_base.specs.Names.{name_field}
use Rattle.std.specs.Prelude.{codes}

pub all : (k : Secrets) (spoken : List ℕ → Option Spoken) → Everywhere (LabelsStep (reading k) (setting_of (login_setting k spoken) labelling (login k)) labelling) (login k)
unfolding request_of request_fields name_in before_nul is_text is_utf8 chars encode may_speak
all k spoken = (
  tt,
  (
    record { of_bytes = (tt, (small (66 ∷ []) refl, (tt, (small (0 ∷ 0 ∷ 0 ∷ 0 ∷ []) refl, tt)))); spells = refl; derives = by_knowing 0 refl },
    (
      tt,
      (
        tt,
        (
          record {
            of_bytes = ((tt, (small (64 ∷ []) refl, (tt, (small (name_28 ann) refl, (small (name_28 ann) refl, (tt, tt)))))), ((tt, (small (67 ∷ []) refl, (tt, (small (0 ∷ 0 ∷ 0 ∷ 0 ∷ []) refl, tt)))), tt));
            spells = ap (λ rest. Ok (ticket_bytes 64 k.srv_key k ++ rest)) (append-nil (proof_bytes 67 k.server k));
            derives = by_knowing 0 refl;
          },
          (
            tt,
            (
              record {
                of_bytes = (small (4 ∷ []) refl, ((tt, (small (65 ∷ []) refl, (tt, (small (name_28 ann) refl, (small (name_28 ann) refl, (tt, tt)))))), ((tt, (small (64 ∷ []) refl, (tt, (small (name_28 ann) refl, (small (name_28 ann) refl, (tt, tt)))))), tt)));
                spells = ap (λ rest. Ok (4 ∷ ticket_bytes 65 k.ann_key k ++ rest)) (append-nil (ticket_bytes 64 k.srv_key k));
                derives = by_knowing 0 refl;
              },
              (tt, (record { of_bytes = (small (1 ∷ []) refl, (small (name_28 srv) refl, (small (name_field 48 (codes "x")) refl, (tt, (small (name_28 ann) refl, (small (name_28 ann) refl, tt)))))); spells = refl; derives = by_knowing 0 refl }, (tt, (record { of_bytes = (small (1 ∷ []) refl, (small (name_28 srv) refl, (small (name_field 48 (codes "x")) refl, (tt, (small (name_28 []) refl, (small (name_28 []) refl, tt)))))); spells = refl; derives = by_knowing 0 refl }, (tt, (record { of_bytes = tt; spells = refl; derives = by_knowing 0 refl }, (tt, (record { of_bytes = small choice_bytes refl; spells = refl; derives = in_public choice_bytes }, (tt, (record { of_bytes = small offer_bytes refl; spells = refl; derives = in_public offer_bytes }, (tt, (tt, (tt, tt))))))))))))),
            ),
          ),
        ),
      ),
    ),
  ),
)

pub labels : (k : Secrets) (spoken : List ℕ → Option Spoken) → AtEachPlace (login k) (LabelsStep (reading k) (setting_of (login_setting k spoken) labelling (login k)) labelling)
labels k spoken = everywhere (LabelsStep (reading k) (setting_of (login_setting k spoken) labelling (login k)) labelling) (login k) (all k spoken)
