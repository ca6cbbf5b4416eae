use Rattle.std.proofs.Common.{◌≡◌, ◌∙◌, ℕ, List, ◌++◌, ap, append_assoc}
use Rattle.std.specs.Prelude.{codes}
use Rattle.ofn_heads.specs.Heads.{name_of}
use Rattle.status_lines.specs.Lines.{place_text, speaker_text}
use Rattle.status_lines.proofs.lines.profile_line.Goals as goal

-- two pieces after the front of a line
joined : (speaker colon place between name end one two three : List ℕ)
    → one ≡ speaker ++ (colon ++ (place ++ between)) → two ≡ one ++ name → three ≡ two ++ end → three ≡ speaker ++ (colon ++ ((place ++ (between ++ name)) ++ end))
joined speaker colon place between name end one two three e f g =
    g ∙ ap (λ (l : List ℕ). l ++ end) (f ∙ ap (λ (l : List ℕ). l ++ name) e) ∙ simp append_assoc

pub returns : goal.returns
returns c =
    joined (speaker_text c.args.speaker) (codes ": ") (place_text c.args.side c.args.place) (codes ": not in the profile: ") (name_of c.args.head) (codes "\n")
    c.in_ok-line.line.items c.extend_from_slice.new.self.items c.extend_from_slice-2.new.self.items
    (c.in_ok-line.ensures.items ∙ c.as_bytes.ensures.value ∙ c.in_ok-front.ensures)
    (c.in_ok-extend_from_slice.ensures.items ∙ ap (λ (n : List ℕ). c.in_ok-line.line.items ++ n) c.name.ensures)
    c.in_ok-extend_from_slice-2.ensures.items
