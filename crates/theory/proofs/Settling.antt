-- What users lean on: final jobs are a prefix, stay final and are never marked; f never falls; the settled table changes only by a turn whose word is final;
-- once all jobs are final nothing changes; and two lists of turns that finish all jobs settle the same table, since both settle the serial run.
use Rattle.std.specs.Prelude.{◌≡◌, ◌≢◌, List, ℕ, ◌≤◌, ◌<◌, length, None}
use Rattle.std.proofs.Math.Path.{refl}
use Rattle.std.proofs.Common.{sym, ap, ◌∙◌, arith}
use Rattle.theory.specs.Word as W
use Rattle.theory.specs.Word.{final_word}
use Rattle.theory.specs.Promise.{Machine, Promise}
use Rattle.theory.specs.Engine.{Block, Limits, final, moved, move, job_at, Turned, move_to, move_at, turn, turns, finals, settled}
use Rattle.theory.specs.Histories.{reached, serially}
use Rattle.theory.proofs.Blocks.{Outcome, no_such_job, misfit, taken, outcome, turns_keep, Sound, turn_sound, turn_stays_final, reached_sound}
use Rattle.theory.proofs.Finals.{finals_turn, finals_turns, final_iff, lower_final}
use Rattle.theory.proofs.SettledIsSerial.{sound_settled}

final_word_other : (w : W.Word) → w ≢ W.final → final_word w ≡ 0
final_word_other W.idle n = refl
final_word_other W.back n = refl
final_word_other W.step n = refl
final_word_other W.end n = refl
final_word_other W.final n = absurd (n refl)
final_word_other W.wait n = refl
final_word_other W.bad_ticket n = refl
final_word_other W.stuck n = refl

module _ (L : Limits) (M : Machine) where
  open M use {S}

  pub f_never_falls : (b : Block S) (more : List ℕ) → finals L M b.jobs ≤ finals L M (turns L M b more).jobs
  f_never_falls b more = omega (arith, finals_turns L M b more)

  final_idles : (b : Block S) (i : ℕ) → (job_at L M b i).status ≡ final → move_at L M b i ≡ moved W.idle (job_at L M b i)
  unfolding move
  final_idles b i e = rw e refl

  module _ (table : List ℕ) (starts : List S) where
    pub final_prefix : (ts : List ℕ) (k i : ℕ) → i < k → (job_at L M (reached L M table starts ts) k).status ≡ final → (job_at L M (reached L M table starts ts) i).status ≡ final
    final_prefix ts k i h e = lower_final L M table starts (reached L M table starts ts) (reached_sound L M table starts ts) k i h e

    pub final_stays : (ts more : List ℕ) (k : ℕ) → (job_at L M (reached L M table starts ts) k).status ≡ final → (job_at L M (turns L M (reached L M table starts ts) more) k).status ≡ final
    final_stays ts more k e =
        (turns_keep L M (λ b. Sound L M table starts b × ((job_at L M b k).status ≡ final))
        (λ b t p. (turn_sound L M table starts b t p.0, turn_stays_final L M table starts b t p.0 k p.1))
        (reached L M table starts ts) more (reached_sound L M table starts ts, e)).1

    pub final_unmarked : (ts : List ℕ) (k : ℕ) → (job_at L M (reached L M table starts ts) k).status ≡ final → (job_at L M (reached L M table starts ts) k).mark ≡ None
    final_unmarked ts k e = (((reached_sound L M table starts ts).invariant k).settled e).0

    pub settled_by_final_only : Promise L.cells M → (ts : List ℕ) (t : ℕ) →
        let b = reached L M table starts ts in
        (turn L M b t).word ≢ W.final → settled L M (turn L M b t).block ≡ settled L M b
    settled_by_final_only P ts t n =
        sound_settled L M P table starts (turn L M b t).block (turn_sound L M table starts b t s) ∙ ap (serially L M table starts) f ∙ sym (sound_settled L M P table starts b s)
      where
        b : Block S
        b = reached L M table starts ts

        s : Sound L M table starts b
        s = reached_sound L M table starts ts

        f : finals L M (turn L M b t).block.jobs ≡ finals L M b.jobs
        f = omega (arith, finals_turn L M b t, final_word_other (turn L M b t).word n)

    finished_turn : (b : Block S) → Sound L M table starts b → finals L M b.jobs ≡ length b.jobs → (t : ℕ) → (turn L M b t).block ≡ b
    finished_turn b s e t = go (turn L M b t) (outcome L M b t)
      where
        go : (u : Turned L M) → Outcome L M b t u → u.block ≡ b
        go u (no_such_job q) = refl
        go u (misfit q) = refl
        go u (taken i q h f) = ap (λ m. (move_to L M b i m.word m.job).block) (final_idles b i ((final_iff L M table starts b s i).0 (omega arith)))

    pub finished_stays : (ts more : List ℕ) →
        let b = reached L M table starts ts in
        finals L M b.jobs ≡ length b.jobs → turns L M b more ≡ b
    finished_stays ts more e =
        turns_keep L M (λ c. c ≡ b) (λ c t q. ap (λ c. (turn L M c t).block) q ∙ finished_turn b (reached_sound L M table starts ts) e t) b more refl
      where
        b : Block S
        b = reached L M table starts ts

    pub finished_alike : Promise L.cells M → (ts us : List ℕ) →
        finals L M (reached L M table starts ts).jobs ≡ length starts → finals L M (reached L M table starts us).jobs ≡ length starts →
        settled L M (reached L M table starts ts) ≡ settled L M (reached L M table starts us)
    finished_alike P ts us e d =
        sound_settled L M P table starts (reached L M table starts ts) (reached_sound L M table starts ts) ∙ ap (serially L M table starts) (e ∙ sym d)
        ∙ sym (sound_settled L M P table starts (reached L M table starts us) (reached_sound L M table starts us))
