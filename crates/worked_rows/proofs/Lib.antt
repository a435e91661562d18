mod FactLaws
