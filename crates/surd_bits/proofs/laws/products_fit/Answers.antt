use Rattle.surd_bits.proofs.ProductsFit.{coefficients_fit, radicands_fit, extracted_fits}
use Rattle.surd_bits.proofs.laws.products_fit.Goals as goal

pub returns : goal.returns
returns c = record {
  coefficients = λ a b h l p q k bits. coefficients_fit a b h l p.coefficient q.coefficient p.radicand q.radicand k bits;
  radicands = λ a b h l g p q k bits. radicands_fit a b h l p.coefficient q.coefficient p.radicand q.radicand k bits g;
  extracted = λ a b h l root rest p q k bits. extracted_fits a b h l p.coefficient q.coefficient p.radicand q.radicand k bits root rest;
}
