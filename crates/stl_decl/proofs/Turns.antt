-- What one turn of a loop of reading comes to.
use Rattle.std.proofs.Common.{◌≡◌, ◌∙◌, ℕ, List, refl, sym, ap}
use Rattle.std.specs.Prelude.{Ok, Err, Option, Some, None, codes}
use Rattle.stl_lex.specs.declared.token.Token.{Token}
use Rattle.stl_decl.specs.declared.fault.Fault.{Fault}
use Rattle.stl_decl.specs.declared.layout.FirstValue.{FirstValue}
use Rattle.stl_decl.specs.declared.initials.Filling.{Filling}
use Rattle.stl_decl.specs.Steps.{◌>>=◌, maybe_sign_at, maybe_word_at}
use Rattle.stl_decl.specs.Layout.{Section, Declared, added, assigned}
use Rattle.stl_decl.specs.Declarations.{declaration_at}
use Rattle.stl_decl.specs.Sections.{end_word, section_by, section_turn, section_at, temporaries_turn, temporaries_by, no_section_at, assignment_at, assignments_turn, assignments_by}
use Rattle.stl_decl.specs.declared.grammar.SectionKind.TheVariants.{Temporary}
use Rattle.stl_decl.specs.declared.grammar.SectionKind.{SectionKind}
use Rattle.stl_decl.specs.Repeat.{Ended, Goes}
use Rattle.stl_decl.specs.Places.{Place}
use Rattle.stl_decl.specs.Initials.{Filled, initial_at, initial_by, initial_turn, more_filled}

module _ (text : List ℕ) (variable : Place) (s : Filled × List Token) where
  pub initial_fails : (f : Fault) → initial_at text variable s.0.filled s.1 ≡ Err f → initial_turn text variable s ≡ Err f
  unfolding initial_turn
  initial_fails f is = rw is refl

  pub initial_turns : (i : Filling × Token × List Token) → initial_at text variable s.0.filled s.1 ≡ Ok i → (o : Option (Token × List Token)) → o ≡ maybe_sign_at text (codes ",") i.2 → initial_turn text variable s ≡ Ok (initial_by o (more_filled s.0 i.0) i.1 i.2)
  unfolding initial_turn
  initial_turns i is o e = rw is (ap (λ p. Ok (initial_by p (more_filled s.0 i.0) i.1 i.2)) (sym e))

module _ (turns : ℕ) (text : List ℕ) (kind : SectionKind) (s : Section × List Token) where
  pub section_ends : (x : Token × List Token) → Some x ≡ maybe_word_at text (end_word kind) s.1 → section_turn turns text kind s ≡ Ok (Ended (s.0, x.1))
  unfolding section_turn
  section_ends x e = sym (ap (λ o. section_by o turns text kind s) e)

  by_declaration : None ≡ maybe_word_at text (end_word kind) s.1 → section_turn turns text kind s ≡ (declaration_at turns text kind s.0 s.1 >>= λ d. Ok (Goes (added s.0 d.0, d.1)))
  unfolding section_turn
  by_declaration e = sym (ap (λ o. section_by o turns text kind s) e)

  pub section_goes : None ≡ maybe_word_at text (end_word kind) s.1 → (d : Declared × List Token) → declaration_at turns text kind s.0 s.1 ≡ Ok d → section_turn turns text kind s ≡ Ok (Goes (added s.0 d.0, d.1))
  section_goes e d is = rw (by_declaration e, is) refl

  pub section_fails : None ≡ maybe_word_at text (end_word kind) s.1 → (f : Fault) → declaration_at turns text kind s.0 s.1 ≡ Err f → section_turn turns text kind s ≡ Err f
  section_fails e f is = rw (by_declaration e, is) refl

module _ (turns : ℕ) (text : List ℕ) (s : Section × List Token) where
  by_section : (x : Token × List Token) → Some x ≡ maybe_word_at text (codes "VAR_TEMP") s.1 → temporaries_turn turns text s ≡ (section_at turns text Temporary s.0 x.1 >>= λ r. Ok (Goes r))
  unfolding temporaries_turn
  by_section x e = sym (ap (λ o. temporaries_by o turns text s) e)

  pub temporaries_goes : (x : Token × List Token) → Some x ≡ maybe_word_at text (codes "VAR_TEMP") s.1 → (r : Section × List Token) → section_at turns text Temporary s.0 x.1 ≡ Ok r → temporaries_turn turns text s ≡ Ok (Goes r)
  temporaries_goes x e r is = rw (by_section x e, is) refl

  pub temporaries_fails : (x : Token × List Token) → Some x ≡ maybe_word_at text (codes "VAR_TEMP") s.1 → (f : Fault) → section_at turns text Temporary s.0 x.1 ≡ Err f → temporaries_turn turns text s ≡ Err f
  temporaries_fails x e f is = rw (by_section x e, is) refl

  by_end : None ≡ maybe_word_at text (codes "VAR_TEMP") s.1 → temporaries_turn turns text s ≡ (no_section_at text s.1 >>= λ u. Ok (Ended s))
  unfolding temporaries_turn
  by_end e = sym (ap (λ o. temporaries_by o turns text s) e)

  pub temporaries_ends : None ≡ maybe_word_at text (codes "VAR_TEMP") s.1 → (u : Unit {0}) → Ok u ≡ no_section_at text s.1 → temporaries_turn turns text s ≡ Ok (Ended s)
  temporaries_ends e u is = by_end e ∙ ap (λ r. r >>= λ u. Ok (Ended s)) (sym is)

  pub temporaries_refuses : None ≡ maybe_word_at text (codes "VAR_TEMP") s.1 → (f : Fault) → Err f ≡ no_section_at text s.1 → temporaries_turn turns text s ≡ Err f
  temporaries_refuses e f is = by_end e ∙ ap (λ r. r >>= λ u. Ok (Ended s)) (sym is)

module _ (text : List ℕ) (s : Section × List Token) where
  pub assignments_ends : (x : Token × List Token) → Some x ≡ maybe_word_at text (codes "END_DATA_BLOCK") s.1 → assignments_turn text s ≡ Ok (Ended (s.0, x.1))
  unfolding assignments_turn
  assignments_ends x e = sym (ap (λ o. assignments_by o text s) e)

  by_assignment : None ≡ maybe_word_at text (codes "END_DATA_BLOCK") s.1 → assignments_turn text s ≡ (assignment_at text s.0 s.1 >>= λ v. Ok (Goes (assigned s.0 v.0, v.1)))
  unfolding assignments_turn
  by_assignment e = sym (ap (λ o. assignments_by o text s) e)

  pub assignments_goes : None ≡ maybe_word_at text (codes "END_DATA_BLOCK") s.1 → (v : FirstValue × List Token) → assignment_at text s.0 s.1 ≡ Ok v → assignments_turn text s ≡ Ok (Goes (assigned s.0 v.0, v.1))
  assignments_goes e v is = rw (by_assignment e, is) refl

  pub assignments_fails : None ≡ maybe_word_at text (codes "END_DATA_BLOCK") s.1 → (f : Fault) → assignment_at text s.0 s.1 ≡ Err f → assignments_turn text s ≡ Err f
  assignments_fails e f is = rw (by_assignment e, is) refl
