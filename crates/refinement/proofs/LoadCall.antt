-- A load reads the meters that the reference machine has, so that of a taken one each is below its modulus; it changes nothing.
use Prim.Native.Nat.{ℕ, ◌<◌}
use mathlib.Core.Bool.{Bool, true}
use mathlib.Core.List.{List}
use mathlib.Core.Path.{◌≡◌, refl, sym, ap, ◌∙◌, subst}
use native.Mathlib.Omega.{arith}
use lib.Dec.{leb, eqb}
use lib.ListN.{replicate}
use borrow.Author.Tests.{leb-false, eq-eqb}
use Rattle.bounded.specs.Rows.{refusal}
use Rattle.bounded.proofs.Below.{none-at}
use Rattle.bounded.proofs.Rows.{none-apply}
use Rattle.bounded.proofs.Tests.{row-yes}
use Rattle.words.specs.Words.{word_at}
use Rattle.meters.specs.Meters.{modulus_of}
use Rattle.moduli_text.specs.Text.{moduli_in}
use Rattle.state.specs.State.{State}
use Rattle.validity.specs.Validity.{state_ok}
use Rattle.refinement.specs.Stores.{World}
use Rattle.refinement.specs.Calls.{meter_stored, load_rows, load_of}
use Rattle.refinement.specs.Run.{Call, load, exec}
use Rattle.refinement.specs.Reference.{Reference, meter_on}
use Rattle.refinement.proofs.Invariant.{Durable, Related}
use Rattle.refinement.proofs.ReadCall.{turn-kept}
use Rattle.refinement.proofs.Sound.{Sound, related-valid, related-durable}
use Rattle.refinement.proofs.Valid.{legal-sizes}
use Rattle.refinement.proofs.Copies.{own-frame}
use Rattle.image.specs.Lines.{line_bytes}

module _ {past : List ℕ} (st : State) (img : List ℕ) (b : Reference) (ok : state_ok st ≡ true) (D : Durable past st img b) where
  pub stored-meter : (m : ℕ) → m < 24 → meter_stored st img m ≡ meter_on b m
  stored-meter m l =
      let page : 0 < st.sizes.pages = omega (arith, (legal-sizes st ok).pages-low) in
      ap (λ (f : ℕ). word_at (line_bytes img st.sizes f m) 0) (own-frame st img ok D 0 m page)
      ∙ ap (λ (x : List ℕ). word_at x 0) (D.committed 0 m page (omega arith))

  module _ (text : List ℕ) (e : refusal (load_rows st img text) ≡ 0) where
    pub loaded-moduli : (load_of st img text).moduli ≡ moduli_in text
    unfolding load_of
    loaded-moduli = sym (row-yes (eqb (refusal (load_rows st img text)) 0) (moduli_in text) (replicate 24 0) (eq-eqb (refusal (load_rows st img text)) 0 e))

    meter-below : (m : ℕ) → m < 24 → meter_on b m < modulus_of (moduli_in text) m
    meter-below m l =
        let high : ℕ → Bool = λ i. leb (modulus_of (moduli_in text) i) (meter_stored st img i) in
        let h = leb-false (modulus_of (moduli_in text) m) (meter_stored st img m) (none-at high 24 m l (none-apply (load_rows st img text) (omega arith) e).1.1.1.1.1.0) in
        omega (arith, h, stored-meter m l)

  pub load-right : (text : List ℕ) → (load_of st img text).number ≡ 0 → (m : ℕ) → m < 24 → meter_on b m < modulus_of (load_of st img text).moduli m
  unfolding load_of
  load-right text e m l = subst (λ (ms : List ℕ). meter_on b m < modulus_of ms m) (sym (loaded-moduli text e)) (meter-below text e m l)

pub load-sound : {past : List ℕ} (text : List ℕ) (v : World) (b : Reference) → Related past v b → Sound past (load text) v b
unfolding exec
load-sound {past = past} text v b h =
    let st = v.st in
    let img = v.image in
    record {
      right = load-right st img b (related-valid st img b h) (related-durable st img b h) text;
      sizes = refl;
      related = subst (Related past v) (sym (turn-kept (load text) (load_of st img text).number 0 b refl)) h;
    }
