-- What contracts see of what answers lines.
use Rattle.clip_explain_lines.specs.declared.form.Form.{Form}
use Rattle.clip_explain_lines.specs.declared.session.Explainer.{Explainer}

-- the form in which it answers
abbrev pub form_of : Explainer × Unit {0} → Form
form_of s = s.0.form
