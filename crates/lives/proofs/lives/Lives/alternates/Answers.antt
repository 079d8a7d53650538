use Rattle.std.proofs.Common.{◌≡◌, ◌*◌, Bool, false, inl, inr, Decides, sym, ap, ◌∙◌, subst, ℕ}
use Rattle.model.specs.Loose.{Alternate}
use Rattle.model.specs.Outcomes.{Filling}
use Rattle.model.specs.Tape.{play_three}
use Rattle.lives.specs.declared.lives.Lives.{Lives}
use Rattle.lives.specs.declared.table.Table.{Table}
use Rattle.lives.specs.Views.{member, filling_of, flags_in}
use Rattle.lives.specs.Whole.{tape_of, symbols_of}
use Rattle.lives.proofs.Deciding.{round_less, round_kept, Ended, decided}
use Rattle.lives.proofs.Flags.{length_flags}
use Rattle.lives.proofs.lives.Lives.alternates.Goals as goal
use Rattle.lives.proofs.lives.Lives.alternates.Goals.{then-loop-self-test+else-play_round, else-loop-self-test}

pub loop-self-smaller : goal.loop-self-smaller
loop-self-smaller c =
    let v = c.loop-self.self in
    let t = v.table in
    let u = c.play_round.new.self.table in
    round_less (member c.args.members.now) (symbols_of v) (tape_of v) v.fit t.present (flags_in t) (flags_in u) u.changed (length_flags t.symbols.items) c.play_round.ensures.played (sym c.play_round.ensures.changed ∙ c.if-play_round.true)

pub loop-self-preserved : goal.loop-self-preserved
loop-self-preserved c = record {
  tape = c.play_round.ensures.tape ∙ c.loop-self.invariant.tape;
  symbols = c.play_round.ensures.symbols ∙ c.loop-self.invariant.symbols;
  sound = λ s formed compiled. let t = c.loop-self.self.table in let u = c.play_round.new.self.table in
      (round_kept s formed (member c.args.members.now) (tape_of c.loop-self.self) (flags_in t) (flags_in u) u.changed (c.loop-self.invariant.tape ∙ compiled.tape_is)
      (length_flags t.symbols.items ∙ ap (λ (n : ℕ). 54 * n) (c.loop-self.invariant.symbols ∙ compiled.symbols_are)) (c.loop-self.invariant.sound s formed compiled) c.play_round.ensures.played).0;
}

pub returns-clause-decided : goal.returns-clause-decided
returns-clause-decided c s formed compiled =
    let members = member c.args.members.now in
    let v = c.loop-self.self in
    let t = v.table in
    let sound = c.loop-self.invariant.sound s formed compiled in
    let sized = length_flags t.symbols.items ∙ ap (λ (n : ℕ). 54 * n) (c.loop-self.invariant.symbols ∙ compiled.symbols_are) in
    let kept = λ (u : Table) (e : ◌≡◌ {A = Filling} (filling_of u) (play_three members (tape_of v) (record { table = flags_in t; changed = false }))). round_kept s formed members (tape_of v) (flags_in t) (flags_in u) u.changed (c.loop-self.invariant.tape ∙ compiled.tape_is) sized sound e in
    let ended : Ended s members (flags_in c.loop-self-test.self.table) = elim c.loop-self-test.branch [
      | then-loop-self-test+else-play_round w ↦ let u = kept w.play_round.new.self.table w.play_round.ensures.played in subst (λ (z : Lives). Ended s members (flags_in z.table)) (sym w.self-is) (u.0, inl (u.1 (sym w.play_round.ensures.changed ∙ w.if-play_round.false)))
      | else-loop-self-test w ↦ subst (λ (z : Lives). Ended s members (flags_in z.table)) (sym w.self-is) (sound, inr (sym c.is_clear.ensures ∙ w.loop-self-test.false))
    ] in
    subst (λ (r : Bool). Decides r (Alternate s members)) (sym c.is_clear-2.ensures) (decided s members (flags_in c.loop-self-test.self.table) ended)
